-- The rules of a drawing, in the drawing office's words. Assumes nothing.
use Rattle.std.specs.Prelude.{◌≡◌, ℕ, suc, ◌<◌, ◌≤◌, ◌⊎◌, List, [], length, Some, None, Ok, Err, Option, Result, ◌≢◌, slice_index, slice_index_or}
use Rattle.std.specs.Option.{option_map}
use Rattle.std.specs.List.{slice_get}
use Rattle.network.specs.declared.track.Kind.{Kind}
use Rattle.network.specs.declared.track.Kind.TheVariants.{Plain}
use Rattle.network.specs.declared.track.Position.{Position}
use Rattle.network.specs.declared.track.Position.TheVariants.{Left, Right}
use Rattle.network.specs.declared.track.Joint.{Joint}
use Rattle.network.specs.declared.track.Joint.TheVariants.{Outer, Joined}
use Rattle.network.specs.declared.track.Block.{Block}
use Rattle.network.specs.declared.route.Step.{Step}
use Rattle.network.specs.declared.rules.BlockRule.{BlockRule}
use Rattle.network.specs.declared.rules.BlockRule.TheVariants.{JointsExist, OuterEnds, JointsMutual}
use Rattle.network.specs.declared.rules.RouteRule.{RouteRule}
use Rattle.network.specs.declared.rules.RouteRule.TheVariants.{Blocks, Borders, Ways}
use Rattle.network.specs.declared.rules.Broken.{Broken}
use Rattle.network.specs.declared.rules.Broken.TheVariants.{Block as BrokenBlock, Route as BrokenRoute}
use Rattle.network.specs.Track.{kind_of}
use Rattle.network.specs.Ways.{way_of}
use Rattle.network.specs.Joints.{joint_of}

abbrev pub kind_at : List Block → ℕ → Option Kind
kind_at bs b = option_map kind_of (slice_get bs b)

-- block b of the blocks bs meets a rule:
-- every joint names an existing block and end;
-- only a plain block has an outer end, and at most one;
-- a joint is mutual, leads to another block, and is the only one that leads there
abbrev pub BlockMeets : List Block → BlockRule → ℕ → Type 0
BlockMeets bs JointsExist b = (e c f : ℕ) → joint_of bs b e ≡ Some (Joined c f) → (j : Joint) × (joint_of bs c f ≡ Some j)
BlockMeets bs OuterEnds b =
    (e : ℕ) → joint_of bs b e ≡ Some Outer → (kind_at bs b ≡ Some Plain) × ((f : ℕ) → joint_of bs b f ≡ Some Outer → f ≡ e)
BlockMeets bs JointsMutual b =
    (e c f : ℕ) → joint_of bs b e ≡ Some (Joined c f) → (joint_of bs c f ≡ Some (Joined b e)) × (c ≢ b) × ((g h : ℕ) → joint_of bs b g ≡ Some (Joined c h) → g ≡ e)

-- a border block has an outer end
abbrev pub Border : List Block → ℕ → Type 0
Border bs b = (e : ℕ) × (joint_of bs b e ≡ Some Outer)

abbrev pub Leads : Kind → ℕ → ℕ → Position → Type 0
Leads k e f p = way_of k e p ≡ Some f

-- the way from e to f needs a position where it leads in that one alone, and none where it leads in both
abbrev pub Needs : Kind → ℕ → ℕ → Option Position → Type 0
Needs k e f None = Leads k e f Left × Leads k e f Right
Needs k e f (Some Left) = Leads k e f Left × (Leads k e f Right → ⊥)
Needs k e f (Some Right) = Leads k e f Right × (Leads k e f Left → ⊥)

-- a step goes by a way of its block, from the end entered to the end left, and says the position which that way needs
pub record Passes (bs : List Block) (s : Step) : Type 0 where
  pub kind : Kind
  pub is : kind_at bs s.block ≡ Some kind
  pub needs : Needs kind s.entered s.left s.needs

abbrev pub no_step : Step
no_step = record { block = 0; entered = 0; left = 0; needs = None }

abbrev pub block_at : List ℕ → ℕ → ℕ
block_at r i = slice_index r i

abbrev pub step_at : List Step → ℕ → Step
step_at ss i = slice_index_or ss i no_step

-- the steps ss run through the blocks r, from outer end to outer end
pub record Follows (bs : List Block) (r : List ℕ) (ss : List Step) : Type 0 where
  pub long : length ss ≡ length r
  pub blocks : (i : ℕ) → i < length r → (step_at ss i).block ≡ block_at r i
  pub enters : joint_of bs (block_at r 0) (step_at ss 0).entered ≡ Some Outer
  pub joins : (i : ℕ) → suc i < length r → joint_of bs (block_at r i) (step_at ss i).left ≡ Some (Joined (block_at r (suc i)) (step_at ss (suc i)).entered)
  pub leaves : (i : ℕ) → suc i ≡ length r → joint_of bs (block_at r i) (step_at ss i).left ≡ Some Outer
  pub passes : (i : ℕ) → i < length r → Passes bs (step_at ss i)

-- at least two blocks, all existing, none twice
pub record Distinct (bs : List Block) (r : List ℕ) : Type 0 where
  pub two : 2 ≤ length r
  pub exist : (i : ℕ) → i < length r → block_at r i < length bs
  pub once : (i j : ℕ) → i < length r → j < length r → block_at r i ≡ block_at r j → i ≡ j

-- the blocks r, as a route over the blocks bs, meet a rule
abbrev pub RouteMeets : List Block → RouteRule → List ℕ → Type 0
RouteMeets bs Blocks r = Distinct bs r
RouteMeets bs Borders r = Border bs (block_at r 0) × ((i : ℕ) → suc i ≡ length r → Border bs (block_at r i))
RouteMeets bs Ways r = (ss : List Step) × Follows bs r ss

abbrev pub route_at : List (List ℕ) → ℕ → List ℕ
route_at rs r = slice_index_or rs r []

-- every block and every route meets every rule, and sss are the routes' steps
pub record Lawful (bs : List Block) (rs : List (List ℕ)) (sss : List (List Step)) : Type 0 where
  pub blocks : (ρ : BlockRule) (b : ℕ) → b < length bs → BlockMeets bs ρ b
  pub routes : (ρ : RouteRule) (r : ℕ) → r < length rs → RouteMeets bs ρ (route_at rs r)
  pub long : length sss ≡ length rs
  pub steps : (r : ℕ) → r < length rs → Follows bs (route_at rs r) (slice_index_or sss r [])

-- the order in which the rules are asked
abbrev pub block_rank : BlockRule → ℕ
block_rank JointsExist = 0
block_rank OuterEnds = 1
block_rank JointsMutual = 2

abbrev pub route_rank : RouteRule → ℕ
route_rank Blocks = 0
route_rank Borders = 1
route_rank Ways = 2

-- block b is the first to break the rule ρ, and all blocks meet the rules before it
pub record BreaksBlock (bs : List Block) (ρ : BlockRule) (b : ℕ) : Type 0 where
  pub there : b < length bs
  pub broken : BlockMeets bs ρ b → ⊥
  pub above : (c : ℕ) → c < b → BlockMeets bs ρ c
  pub earlier : (σ : BlockRule) → block_rank σ < block_rank ρ → (c : ℕ) → c < length bs → BlockMeets bs σ c

-- route r breaks the rule ρ and meets those before it, and all blocks and all routes before it meet all rules
pub record BreaksRoute (bs : List Block) (rs : List (List ℕ)) (ρ : RouteRule) (r : ℕ) : Type 0 where
  pub there : r < length rs
  pub broken : RouteMeets bs ρ (route_at rs r) → ⊥
  pub earlier : (σ : RouteRule) → route_rank σ < route_rank ρ → RouteMeets bs σ (route_at rs r)
  pub above : (σ : RouteRule) (q : ℕ) → q < r → RouteMeets bs σ (route_at rs q)
  pub blocks : (σ : BlockRule) (c : ℕ) → c < length bs → BlockMeets bs σ c

abbrev pub Breaks : List Block → List (List ℕ) → Broken → Type 0
Breaks bs rs (BrokenBlock ρ b) = BreaksBlock bs ρ b
Breaks bs rs (BrokenRoute ρ r) = BreaksRoute bs rs ρ r

-- a judgement is right: it accepts with the routes' steps where all rules are met, else it names the first rule broken, and where
abbrev pub JudgedRight : List Block → List (List ℕ) → Result (List (List Step)) Broken → Type 0
JudgedRight bs rs (Ok sss) = Lawful bs rs sss
JudgedRight bs rs (Err e) = Breaks bs rs e

abbrev pub steps_at : List (List Step) → ℕ → List Step
steps_at sss r = slice_index_or sss r []

-- the first or the last of n places
abbrev pub AtBorder : ℕ → ℕ → Type 0
AtBorder i n = (i ≡ 0) ⊎ (suc i ≡ n)

-- the first block of a route, and its last, is in another route only as that route's first or last block
abbrev pub BordersApart : List (List Step) → Type 0
BordersApart sss =
    (q r i j : ℕ) → q < length sss → r < length sss → i < length (steps_at sss q) → j < length (steps_at sss r) → AtBorder i (length (steps_at sss q)) → (step_at (steps_at sss q) i).block ≡ (step_at (steps_at sss r) j).block → AtBorder j (length (steps_at sss r))
