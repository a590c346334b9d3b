-- The tests of the rules, in their order, and the routes that they leave traced. Assumes nothing.
use Rattle.std.specs.Prelude.{ℕ, suc, ◌-◌, Bool, true, false, cond, ◌&&◌, List, [], ◌∷◌, ◌++◌, length, replicate, Some, None, Ok, Err, Option, Result, ◌==◌, nat_le, slice_index, slice_index_or, slice_set}
use Rattle.std.specs.List.{slice_get}
use Rattle.network.specs.declared.track.Kind.{Kind}
use Rattle.network.specs.declared.track.Position.{Position}
use Rattle.network.specs.declared.track.Position.TheVariants.{Left, Right}
use Rattle.network.specs.declared.track.Block.{Block}
use Rattle.network.specs.declared.route.Step.{Step}
use Rattle.network.specs.declared.rules.BlockRule.{BlockRule}
use Rattle.network.specs.declared.rules.BlockRule.TheVariants.{JointsExist, OuterEnds, JointsMutual}
use Rattle.network.specs.declared.rules.RouteRule.{RouteRule}
use Rattle.network.specs.declared.rules.RouteRule.TheVariants.{Blocks, Borders, Ways}
use Rattle.network.specs.declared.rules.Broken.{Broken}
use Rattle.network.specs.declared.rules.Broken.TheVariants.{Block as BrokenBlock, Route as BrokenRoute}
use Rattle.network.specs.Track.{kind_of}
use Rattle.network.specs.Ways.{way_of}
use Rattle.network.specs.Joints.{all_exist, outer_ends_fit, outer_end, towards, all_mutual}

-- what an accepted sheet comes to: its blocks, and its routes as steps
pub record Plan : Type 0 where
  pub blocks : List Block
  pub routes : List (List Step)

-- does block x, which has the number b, meet a rule?
abbrev pub block_meets : List Block → BlockRule → ℕ → Block → Bool
block_meets bs JointsExist b x = all_exist bs x
block_meets bs OuterEnds b x = outer_ends_fit x
block_meets bs JointsMutual b x = all_mutual bs b x

-- the first of the blocks xs, numbered from b, that breaks a rule
abbrev pub first_break : List Block → BlockRule → ℕ → List Block → Option ℕ
first_break bs ρ b [] = None
first_break bs ρ b (x ∷ xs) = cond (block_meets bs ρ b x) (first_break bs ρ (suc b) xs) (Some b)

-- a table of the blocks seen so far, in which a block that does not exist counts as seen
abbrev pub once : List Bool → List ℕ → Bool
once seen [] = true
once seen (b ∷ bs) = cond (slice_index_or seen b true) false (once (slice_set seen b true) bs)

abbrev pub blocks_once : ℕ → List ℕ → Bool
blocks_once count r = nat_le 2 (length r) && once (replicate count false) r

abbrev pub outer_end_at : Option Block → Option ℕ
outer_end_at None = None
outer_end_at (Some x) = outer_end x

-- the outer end of block b, where it is a border block
abbrev pub border : List Block → ℕ → Option ℕ
border bs b = outer_end_at (slice_get bs b)

abbrev pub is_end : Option ℕ → ℕ → Bool
is_end None e = false
is_end (Some f) e = f == e

-- does a way lead from e to f?
abbrev pub leads : Kind → ℕ → ℕ → Position → Bool
leads k e f p = is_end (way_of k e p) f

-- the position that the way from e to f needs: none where it leads in both; no answer where none leads
abbrev pub needed : Kind → ℕ → ℕ → Option (Option Position)
needed k e f =
    cond (leads k e f Left) (cond (leads k e f Right) (Some None) (Some (Some Left))) (cond (leads k e f Right) (Some (Some Right)) None)

abbrev pub outward : Option ℕ → Option (ℕ × ℕ)
outward None = None
outward (Some e) = Some (e, 0)

-- the end by which block x is left for the next block, and the end by which that is entered; the last block is left by its outer end
abbrev pub onward : Block → Option ℕ → Option (ℕ × ℕ)
onward x None = outward (outer_end x)
onward x (Some c) = towards x c

abbrev pub with_needs : ℕ → ℕ → ℕ × ℕ → Option (Option Position) → Option (Step × ℕ)
with_needs b e o None = None
with_needs b e o (Some n) = Some (record { block = b; entered = e; left = o.0; needs = n }, o.1)

abbrev pub step_by : ℕ → ℕ → Block → Option (ℕ × ℕ) → Option (Step × ℕ)
step_by b e x None = None
step_by b e x (Some o) = with_needs b e o (needed (kind_of x) e o.0)

abbrev pub step_in : ℕ → ℕ → Option ℕ → Option Block → Option (Step × ℕ)
step_in b e next None = None
step_in b e next (Some x) = step_by b e x (onward x next)

-- the step through block b, entered by e, and the end by which the next block is entered
abbrev pub step_of : List Block → ℕ → ℕ → Option ℕ → Option (Step × ℕ)
step_of bs b e next = step_in b e next (slice_get bs b)

abbrev pub after_steps : List Step → Option (List Step) → Option (List Step)
after_steps ss None = None
after_steps ss (Some ts) = Some (ss ++ ts)

abbrev pub then_traced : Option (Step × ℕ) → (ℕ → Option (List Step)) → Option (List Step)
then_traced None k = None
then_traced (Some s) k = after_steps (s.0 ∷ []) (k s.1)

-- the steps through the blocks r, the first of which is entered by e
abbrev pub traced : List Block → ℕ → List ℕ → Option (List Step)
traced bs e [] = Some []
traced bs e (b ∷ r) = then_traced (step_of bs b e (slice_get r 0)) (λ f. traced bs f r)

abbrev pub traced_or : Option (List Step) → Result (List Step) RouteRule
traced_or None = Err Ways
traced_or (Some ss) = Ok ss

abbrev pub trace_from : List Block → List ℕ → Option ℕ → Option ℕ → Result (List Step) RouteRule
trace_from bs r None last = Err Borders
trace_from bs r (Some e) None = Err Borders
trace_from bs r (Some e) (Some f) = traced_or (traced bs e r)

-- a route by its three rules in order, and its steps
abbrev pub judge_route : List Block → List ℕ → Result (List Step) RouteRule
judge_route bs r =
    cond (blocks_once (length bs) r) (trace_from bs r (border bs (slice_index r 0)) (border bs (slice_index r (length r - 1)))) (Err Blocks)

abbrev pub after_routes : List (List Step) → Result (List (List Step)) Broken → Result (List (List Step)) Broken
after_routes ss (Err e) = Err e
after_routes ss (Ok ts) = Ok (ss ++ ts)

abbrev pub then_judged : ℕ → Result (List Step) RouteRule → Result (List (List Step)) Broken → Result (List (List Step)) Broken
then_judged n (Err ρ) rest = Err (BrokenRoute ρ n)
then_judged n (Ok ss) rest = after_routes (ss ∷ []) rest

-- the routes rs, numbered from n
abbrev pub judge_routes : List Block → ℕ → List (List ℕ) → Result (List (List Step)) Broken
judge_routes bs n [] = Ok []
judge_routes bs n (r ∷ rs) = then_judged n (judge_route bs r) (judge_routes bs (suc n) rs)

abbrev pub unless_broken : BlockRule → Option ℕ → Result (List (List Step)) Broken → Result (List (List Step)) Broken
unless_broken ρ (Some b) rest = Err (BrokenBlock ρ b)
unless_broken ρ None rest = rest

abbrev pub block_breaks : List Block → BlockRule → Option ℕ
block_breaks bs ρ = first_break bs ρ 0 bs

abbrev pub kept : BlockRule → Option ℕ → Result Unit Broken
kept ρ (Some b) = Err (BrokenBlock ρ b)
kept ρ None = Ok tt

-- each block rule over all blocks before the next, then each route
abbrev pub judge : List Block → List (List ℕ) → Result (List (List Step)) Broken
judge bs rs =
    unless_broken JointsExist (block_breaks bs JointsExist)
    (unless_broken OuterEnds (block_breaks bs OuterEnds) (unless_broken JointsMutual (block_breaks bs JointsMutual) (judge_routes bs 0 rs)))
