-- The judgement of a drawing is right, and no other is. Assumes nothing.
use Rattle.std.proofs.Common.{◌≡◌, ℕ, zero, suc, ◌+◌, ◌<◌, ◌⊎◌, List, [], ◌∷◌, length, get_or, Some, None, Ok, Err, Option, Result, sym, refl, ap, ◌∙◌, subst, inl, inr, add-zero, zero-add, arith}
use Rattle.std.specs.Option.{option_map}
use Rattle.std.specs.List.{slice_get}
use Rattle.std.proofs.lemmas.List.{ext_get_or}
use Rattle.std.proofs.lemmas.Bool.{cases_order, cases_eq}
use Rattle.network.specs.declared.track.Kind.TheVariants.{Plain as PlainKind}
use Rattle.network.specs.declared.track.Position.{Position}
use Rattle.network.specs.declared.track.Position.TheVariants.{Left, Right}
use Rattle.network.specs.declared.track.Joint.{Joint}
use Rattle.network.specs.declared.track.Joint.TheVariants.{Outer, Joined}
use Rattle.network.specs.declared.track.Block.{Block}
use Rattle.network.specs.declared.track.Block.TheVariants.{Plain, Point, Crossing}
use Rattle.network.specs.declared.route.Step.{Step}
use Rattle.network.specs.declared.rules.BlockRule.{BlockRule}
use Rattle.network.specs.declared.rules.BlockRule.TheVariants.{JointsExist, OuterEnds, JointsMutual}
use Rattle.network.specs.declared.rules.RouteRule.{RouteRule}
use Rattle.network.specs.declared.rules.RouteRule.TheVariants.{Blocks, Borders, Ways}
use Rattle.network.specs.declared.rules.Broken.{Broken}
use Rattle.network.specs.declared.rules.Broken.TheVariants.{Block as BrokenBlock, Route as BrokenRoute}
use Rattle.network.specs.Track.{kind_of}
use Rattle.network.specs.Joints.{joint_in, joint_of}
use Rattle.network.specs.Judge.{block_breaks, judge_route, judge_routes, then_judged, unless_broken, judge}
use Rattle.network.specs.Rules.{kind_at, Border, BlockMeets, Leads, Needs, block_at, step_at, Follows, RouteMeets, route_at, Lawful, block_rank, route_rank, BreaksBlock, BreaksRoute, Breaks, JudgedRight}
use Rattle.network.proofs.BlockRules.{clash, same_some, outer_joined, kinds_apart, Found, found_right, found_only}
use Rattle.network.proofs.RouteRules.{AllMeet, joint_there, follows_only, RouteJudged, route_judged}

-- what a judgement of the routes rs, numbered from n, says
abbrev RoutesJudged : List Block → ℕ → List (List ℕ) → Result (List (List Step)) Broken → Type 0
RoutesJudged bs n rs (Ok sss) = (length sss ≡ length rs) × ((i : ℕ) → i < length rs → ((ρ : RouteRule) → RouteMeets bs ρ (route_at rs i)) × Follows bs (route_at rs i) (get_or sss i []))
RoutesJudged bs n rs (Err (BrokenBlock ρ b)) = ⊥
RoutesJudged bs n rs (Err (BrokenRoute ρ q)) = (i : ℕ) × (q ≡ n + i) × (i < length rs) × (RouteMeets bs ρ (route_at rs i) → ⊥) × ((σ : RouteRule) → route_rank σ < route_rank ρ → RouteMeets bs σ (route_at rs i)) × ((σ : RouteRule) (k : ℕ) → k < i → RouteMeets bs σ (route_at rs k))

routes_more : (bs : List Block) (n : ℕ) (r : List ℕ) (rs : List (List ℕ)) (j : Result (List Step) RouteRule) (k : Result (List (List Step)) Broken) → RouteJudged bs r j → RoutesJudged bs (suc n) rs k → RoutesJudged bs n (r ∷ rs) (then_judged n j k)
routes_more bs n r rs (Err ρ) k p q = (0, sym (add-zero n), omega arith, p.0, p.1, λ σ c l. absurd (omega arith))
routes_more bs n r rs (Ok ss) (Ok sss) p q = (ap suc q.0, each)
  where
    each : (i : ℕ) → i < suc (length rs) → ((ρ : RouteRule) → RouteMeets bs ρ (route_at (r ∷ rs) i)) × Follows bs (route_at (r ∷ rs) i) (get_or (ss ∷ sss) i [])
    each zero l = p
    each (suc i) l = q.1 i (omega arith)
routes_more bs n r rs (Ok ss) (Err (BrokenBlock ρ b)) p q = q
routes_more bs n r rs (Ok ss) (Err (BrokenRoute ρ b)) p q = (suc q.0, q.1 ∙ omega arith, omega (arith, q.2), q.3, q.4, above)
  where
    above : (σ : RouteRule) (k : ℕ) → k < suc q.0 → RouteMeets bs σ (route_at (r ∷ rs) k)
    above σ zero l = p.0 σ
    above σ (suc k) l = q.5 σ k (omega arith)

routes_judged : (bs : List Block) → AllMeet bs → (n : ℕ) (rs : List (List ℕ)) → RoutesJudged bs n rs (judge_routes bs n rs)
routes_judged bs m n [] = (refl, λ i l. absurd (omega arith))
routes_judged bs m n (r ∷ rs) = routes_more bs n r rs (judge_route bs r) (judge_routes bs (suc n) rs) (route_judged bs m r) (routes_judged bs m (suc n) rs)

-- the judgement of the routes is that of the drawing, where all blocks meet all rules
routes_right : (bs : List Block) → AllMeet bs → (rs : List (List ℕ)) (k : Result (List (List Step)) Broken) → RoutesJudged bs 0 rs k → JudgedRight bs rs k
routes_right bs m rs (Ok sss) q = record { blocks = m; routes = λ ρ r l. (q.1 r l).0 ρ; long = q.0; steps = λ r l. (q.1 r l).1 }
routes_right bs m rs (Err (BrokenBlock ρ b)) q = absurd q
routes_right bs m rs (Err (BrokenRoute ρ r)) q = record { there = subst (λ i. i < length rs) (sym same) q.2; broken = λ p. q.3 (at same ρ p); earlier = λ σ l. at (sym same) σ (q.4 σ l); above = λ σ k l. q.5 σ k (omega arith); blocks = m }
  where
    same : r ≡ q.0
    same = q.1 ∙ zero-add q.0

    at : {i j : ℕ} → i ≡ j → (σ : RouteRule) → RouteMeets bs σ (route_at rs i) → RouteMeets bs σ (route_at rs j)
    at e σ p = subst (λ i. RouteMeets bs σ (route_at rs i)) e p

no_rule_before : (bs : List Block) (σ : BlockRule) → block_rank σ < 0 → (c : ℕ) → c < length bs → BlockMeets bs σ c
no_rule_before bs σ l = absurd (omega arith)

first_before : (bs : List Block) → Found bs JointsExist None → (σ : BlockRule) → block_rank σ < 1 → (c : ℕ) → c < length bs → BlockMeets bs σ c
first_before bs f JointsExist l = f
first_before bs f OuterEnds l = absurd (omega arith)
first_before bs f JointsMutual l = absurd (omega arith)

two_before : (bs : List Block) → Found bs JointsExist None → Found bs OuterEnds None → (σ : BlockRule) → block_rank σ < 2 → (c : ℕ) → c < length bs → BlockMeets bs σ c
two_before bs f g JointsExist l = f
two_before bs f g OuterEnds l = g
two_before bs f g JointsMutual l = absurd (omega arith)

all_three : (bs : List Block) → Found bs JointsExist None → Found bs OuterEnds None → Found bs JointsMutual None → AllMeet bs
all_three bs f g h JointsExist = f
all_three bs f g h OuterEnds = g
all_three bs f g h JointsMutual = h

blocks_right : (bs : List Block) (rs : List (List ℕ)) (o p q : Option ℕ) → Found bs JointsExist o → Found bs OuterEnds p → Found bs JointsMutual q → JudgedRight bs rs (unless_broken JointsExist o (unless_broken OuterEnds p (unless_broken JointsMutual q (judge_routes bs 0 rs))))
blocks_right bs rs (Some b) p q f g h = record { there = f.0; broken = f.1; above = f.2; earlier = no_rule_before bs }
blocks_right bs rs None (Some b) q f g h = record { there = g.0; broken = g.1; above = g.2; earlier = first_before bs f }
blocks_right bs rs None None (Some b) f g h = record { there = h.0; broken = h.1; above = h.2; earlier = two_before bs f g }
blocks_right bs rs None None None f g h = let m = all_three bs f g h in routes_right bs m rs (judge_routes bs 0 rs) (routes_judged bs m 0 rs)

pub judge_right : (bs : List Block) (rs : List (List ℕ)) → JudgedRight bs rs (judge bs rs)
judge_right bs rs =
    blocks_right bs rs (block_breaks bs JointsExist) (block_breaks bs OuterEnds) (block_breaks bs JointsMutual) (found_right bs JointsExist) (found_right bs OuterEnds) (found_right bs JointsMutual)

-- A drawing has one right judgement

block_ruled : ℕ → BlockRule
block_ruled zero = JointsExist
block_ruled (suc zero) = OuterEnds
block_ruled (suc (suc n)) = JointsMutual

block_ranked : (ρ : BlockRule) → block_ruled (block_rank ρ) ≡ ρ
unfolding block_ruled
block_ranked JointsExist = refl
block_ranked OuterEnds = refl
block_ranked JointsMutual = refl

route_ruled : ℕ → RouteRule
route_ruled zero = Blocks
route_ruled (suc zero) = Borders
route_ruled (suc (suc n)) = Ways

route_ranked : (ρ : RouteRule) → route_ruled (route_rank ρ) ≡ ρ
unfolding route_ruled
route_ranked Blocks = refl
route_ranked Borders = refl
route_ranked Ways = refl

breaks_block_only : (bs : List Block) (ρ σ : BlockRule) (b c : ℕ) → BreaksBlock bs ρ b → BreaksBlock bs σ c → BrokenBlock ρ b ≡ BrokenBlock σ c
breaks_block_only bs ρ σ b c f g = elim (cases_order (block_rank ρ) (block_rank σ)) [
  | inl e ↦
      let same : ρ ≡ σ = sym (block_ranked ρ) ∙ ap block_ruled e ∙ block_ranked σ in
      let k : BreaksBlock bs ρ c = subst (λ τ. BreaksBlock bs τ c) (sym same) g in
      let at : b ≡ c = same_some refl (found_only bs ρ (Some b) (Some c) (f.there, f.broken, f.above) (k.there, k.broken, k.above)) in
      ap (λ τ. BrokenBlock τ b) same ∙ ap (BrokenBlock σ) at
  | inr l ↦ elim l [ inl k ↦ absurd (f.broken (g.earlier ρ k b f.there)) | inr k ↦ absurd (g.broken (f.earlier σ k c g.there)) ]
]

breaks_route_only : (bs : List Block) (rs : List (List ℕ)) (ρ σ : RouteRule) (q r : ℕ) → BreaksRoute bs rs ρ q → BreaksRoute bs rs σ r → BrokenRoute ρ q ≡ BrokenRoute σ r
breaks_route_only bs rs ρ σ q r f g = elim (cases_order q r) [
  | inl e ↦ rule e (subst (BreaksRoute bs rs σ) (sym e) g)
  | inr l ↦ elim l [ inl k ↦ absurd (f.broken (g.above ρ q k)) | inr k ↦ absurd (g.broken (f.above σ r k)) ]
]
  where
    rule : q ≡ r → BreaksRoute bs rs σ q → BrokenRoute ρ q ≡ BrokenRoute σ r
    rule e h = elim (cases_order (route_rank ρ) (route_rank σ)) [
      | inl s ↦ ap (λ τ. BrokenRoute τ q) (sym (route_ranked ρ) ∙ ap route_ruled s ∙ route_ranked σ) ∙ ap (BrokenRoute σ) e
      | inr l ↦ elim l [ inl k ↦ absurd (f.broken (h.earlier ρ k)) | inr k ↦ absurd (h.broken (f.earlier σ k)) ]
    ]

breaks_only : (bs : List Block) (rs : List (List ℕ)) (e f : Broken) → Breaks bs rs e → Breaks bs rs f → e ≡ f
breaks_only bs rs (BrokenBlock ρ b) (BrokenBlock σ c) f g = breaks_block_only bs ρ σ b c f g
breaks_only bs rs (BrokenBlock ρ b) (BrokenRoute σ r) f g = absurd (f.broken (g.blocks ρ b f.there))
breaks_only bs rs (BrokenRoute ρ q) (BrokenBlock σ c) f g = absurd (g.broken (f.blocks σ c g.there))
breaks_only bs rs (BrokenRoute ρ q) (BrokenRoute σ r) f g = breaks_route_only bs rs ρ σ q r f g

lawful_unbroken : (bs : List Block) (rs : List (List ℕ)) (sss : List (List Step)) (e : Broken) → Lawful bs rs sss → Breaks bs rs e → ⊥
lawful_unbroken bs rs sss (BrokenBlock ρ b) w f = f.broken (w.blocks ρ b f.there)
lawful_unbroken bs rs sss (BrokenRoute ρ r) w f = f.broken (w.routes ρ r f.there)

pub lawful_only : (bs : List Block) (rs : List (List ℕ)) (sss ttt : List (List Step)) → Lawful bs rs sss → Lawful bs rs ttt → sss ≡ ttt
lawful_only bs rs sss ttt v w = ext_get_or [] sss ttt (v.long ∙ sym w.long) (λ i l. let k : i < length rs = omega (arith, v.long) in follows_only bs v.blocks (route_at rs i) (get_or sss i []) (get_or ttt i []) (v.steps i k) (w.steps i k))

right_only : (bs : List Block) (rs : List (List ℕ)) (j k : Result (List (List Step)) Broken) → JudgedRight bs rs j → JudgedRight bs rs k → j ≡ k
right_only bs rs (Ok sss) (Ok ttt) v w = ap Ok (lawful_only bs rs sss ttt v w)
right_only bs rs (Ok sss) (Err f) v w = absurd (lawful_unbroken bs rs sss f v w)
right_only bs rs (Err e) (Ok ttt) v w = absurd (lawful_unbroken bs rs ttt e w v)
right_only bs rs (Err e) (Err f) v w = ap Err (breaks_only bs rs e f v w)

pub judge_only : (bs : List Block) (rs : List (List ℕ)) (r : Result (List (List Step)) Broken) → JudgedRight bs rs r → judge bs rs ≡ r
judge_only bs rs r h = right_only bs rs (judge bs rs) r (judge_right bs rs) h

-- A border block is the first or the last of a route

plain_row : (e f : ℕ) → get_or (Some 1 ∷ Some 0 ∷ None ∷ None ∷ []) e None ≡ Some f → ((e ≡ 0) × (f ≡ 1)) ⊎ ((e ≡ 1) × (f ≡ 0))
plain_row zero f h = inl (refl, same_some h refl)
plain_row (suc zero) f h = inr (refl, same_some h refl)
plain_row (suc (suc zero)) f h = absurd (clash refl h)
plain_row (suc (suc (suc zero))) f h = absurd (clash refl h)
plain_row (suc (suc (suc (suc e)))) f h = absurd (clash refl h)

plain_leads : (p : Position) (e f : ℕ) → Leads PlainKind e f p → ((e ≡ 0) × (f ≡ 1)) ⊎ ((e ≡ 1) × (f ≡ 0))
plain_leads Left e f h = plain_row e f h
plain_leads Right e f h = plain_row e f h

plain_needs : (n : Option Position) (e f : ℕ) → Needs PlainKind e f n → ((e ≡ 0) × (f ≡ 1)) ⊎ ((e ≡ 1) × (f ≡ 0))
plain_needs None e f h = plain_leads Left e f h.0
plain_needs (Some Left) e f h = plain_leads Left e f h.0
plain_needs (Some Right) e f h = plain_leads Right e f h.0

plain_ends : (o : Option Block) (e : ℕ) (j : Joint) → option_map kind_of o ≡ Some PlainKind → joint_in o e ≡ Some j → (e ≡ 0) ⊎ (e ≡ 1)
plain_ends None e j k h = absurd (clash refl k)
plain_ends (Some (Plain a b)) zero j k h = inl refl
plain_ends (Some (Plain a b)) (suc zero) j k h = inr refl
plain_ends (Some (Plain a b)) (suc (suc e)) j k h = absurd (clash refl h)
plain_ends (Some (Point a b c)) e j k h = absurd (kinds_apart (same_some refl k) (inl refl))
plain_ends (Some (Crossing a b c d)) e j k h = absurd (kinds_apart (same_some refl k) (inr refl))

-- one of the two ends of a plain block is entered and the other left
plain_taken : (e f g : ℕ) → (g ≡ 0) ⊎ (g ≡ 1) → ((e ≡ 0) × (f ≡ 1)) ⊎ ((e ≡ 1) × (f ≡ 0)) → (g ≡ e) ⊎ (g ≡ f)
plain_taken e f g (inl h) (inl k) = inl (h ∙ sym k.0)
plain_taken e f g (inl h) (inr k) = inr (h ∙ sym k.1)
plain_taken e f g (inr h) (inl k) = inr (h ∙ sym k.1)
plain_taken e f g (inr h) (inr k) = inl (h ∙ sym k.0)

module _ (bs : List Block) (m : AllMeet bs) (r : List ℕ) (ss : List Step) (f : Follows bs r ss) where
  -- a block inside a route is entered and left by joints
  inner_joined : (i : ℕ) → suc (suc i) < length r → Border bs (block_at r (suc i)) → ⊥
  inner_joined i l o =
      let b = block_at r (suc i) in
      let s = step_at ss (suc i) in
      let out = m OuterEnds b (joint_there bs b o.0 Outer o.1) o.0 o.1 in
      let passes = f.passes (suc i) (omega arith) in
      let kind : passes.kind ≡ PlainKind = same_some passes.is (ap (kind_at bs) (f.blocks (suc i) (omega arith)) ∙ out.0) in
      let needs : Needs PlainKind s.entered s.left s.needs = subst (λ k. Needs k s.entered s.left s.needs) kind passes.needs in
      let before = f.joins i (omega arith) in
      let a = block_at r i in
      let back = (m JointsMutual a (joint_there bs a (step_at ss i).left (Joined b s.entered) before) (step_at ss i).left b s.entered before).0 in
      elim (plain_taken s.entered s.left o.0 (plain_ends (slice_get bs b) o.0 Outer out.0 o.1) (plain_needs s.needs s.entered s.left needs)) [
        | inl e ↦ outer_joined o.1 (ap (joint_of bs b) e ∙ back)
        | inr e ↦ outer_joined o.1 (ap (joint_of bs b) e ∙ f.joins (suc i) l)
      ]

  pub border_at_end : (i : ℕ) → i < length r → Border bs (block_at r i) → (i ≡ 0) ⊎ (suc i ≡ length r)
  border_at_end zero l o = inl refl
  border_at_end (suc i) l o = elim (cases_eq (suc (suc i)) (length r)) [ inl e ↦ inr e | inr n ↦ absurd (inner_joined i (omega arith) o) ]

module _ (bs : List Block) (rs : List (List ℕ)) (sss : List (List Step)) (w : Lawful bs rs sss) where
  pub border_ends : (r i : ℕ) → r < length rs → i < length (route_at rs r) → Border bs (block_at (route_at rs r) i) → (i ≡ 0) ⊎ (suc i ≡ length (route_at rs r))
  border_ends r i k l o = border_at_end bs w.blocks (route_at rs r) (get_or sss r []) (w.steps r k) i l o

  -- the first block of a route, and the last
  pub border_only : (q r i : ℕ) → q < length rs → r < length rs → i < length (route_at rs r) → block_at (route_at rs r) i ≡ block_at (route_at rs q) 0 → (i ≡ 0) ⊎ (suc i ≡ length (route_at rs r))
  border_only q r i h k l e = border_ends r i k l (subst (Border bs) (sym e) (w.routes Borders q h).0)

  pub border_only_last : (q r i j : ℕ) → q < length rs → r < length rs → i < length (route_at rs r) → suc j ≡ length (route_at rs q) → block_at (route_at rs r) i ≡ block_at (route_at rs q) j → (i ≡ 0) ⊎ (suc i ≡ length (route_at rs r))
  border_only_last q r i j h k l n e = border_ends r i k l (subst (Border bs) (sym e) ((w.routes Borders q h).1 j n))
