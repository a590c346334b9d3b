-- The tests of the route rules are right, over blocks that meet the block rules. Assumes nothing.
use Rattle.std.proofs.Common.{◌≡◌, ℕ, zero, suc, ◌-◌, ◌<◌, Bool, true, false, cond, leb, ◌≢◌, ◌⊎◌, List, [], ◌∷◌, length, get_or, set, replicate, Some, None, Ok, Err, Decides, Option, Result, sym, refl, ap, ◌∙◌, subst, inl, inr, zero-add, arith}
use Rattle.std.specs.Option.{option_map}
use Rattle.std.proofs.lemmas.Option.{slice_get_within}
use Rattle.std.specs.List.{slice_get}
use Rattle.std.proofs.lemmas.List.{get_or-set_same, get_or-set_other, get_or_past, get_or-replicate, length-replicate, length-set}
use Rattle.std.proofs.lemmas.Bool.{eqb-true, eq-eqb, leb-true, le-leb, and_parts, and_from, cases_lt, cases_Bool, cond-true, cond-false}
use Rattle.network.specs.declared.track.Kind.{Kind}
use Rattle.network.specs.declared.track.Kind.TheVariants.{Plain as PlainKind}
use Rattle.network.specs.declared.track.Position.{Position}
use Rattle.network.specs.declared.track.Position.TheVariants.{Left, Right}
use Rattle.network.specs.declared.track.Joint.{Joint}
use Rattle.network.specs.declared.track.Joint.TheVariants.{Outer, Joined}
use Rattle.network.specs.declared.track.Block.{Block}
use Rattle.network.specs.declared.track.Block.TheVariants.{Plain, Point, Crossing}
use Rattle.network.specs.declared.route.Step.{Step}
use Rattle.network.specs.declared.rules.BlockRule.{BlockRule}
use Rattle.network.specs.declared.rules.BlockRule.TheVariants.{OuterEnds, JointsMutual}
use Rattle.network.specs.declared.rules.RouteRule.{RouteRule}
use Rattle.network.specs.declared.rules.RouteRule.TheVariants.{Blocks, Borders, Ways}
use Rattle.network.specs.Track.{kind_of, ends_of}
use Rattle.network.specs.Ways.{way_of}
use Rattle.network.specs.Joints.{joint_in, joint_of, outer_of, outer_end}
use Rattle.network.specs.Judge.{once, blocks_once, outer_end_at, border, is_end, leads, needed, outward, onward, with_needs, step_by, step_in, step_of, after_steps, then_traced, traced, traced_or, trace_from, judge_route}
use Rattle.network.specs.Rules.{kind_at, BlockMeets, Leads, Needs, Passes, block_at, step_at, Follows, Distinct, RouteMeets, route_rank}
use Rattle.network.proofs.BlockRules.{clash, same_some, is_and_not, kinds_apart, outer_joined, joint_here, towards_only, towards_is}

-- Blocks, each once

-- a block counts as seen after it was seen, also where it does not exist
seen_set : (seen : List Bool) (b : ℕ) → get_or (set seen b true) b true ≡ true
seen_set seen b = elim (cases_lt b (length seen)) [
  | inl l ↦ get_or-set_same seen b true true l
  | inr l ↦ get_or_past (set seen b true) b true (omega (arith, length-set seen b true))
]

-- the blocks r are none of those seen, and none is there twice
record New (seen : List Bool) (r : List ℕ) : Type 0 where
  new : (i : ℕ) → i < length r → get_or seen (block_at r i) true ≡ false
  apart : (i j : ℕ) → i < length r → j < length r → block_at r i ≡ block_at r j → i ≡ j

new_once : (seen : List Bool) (r : List ℕ) → once seen r ≡ true → New seen r
new_once seen [] h = record { new = λ i l. absurd (omega arith); apart = λ i j l. absurd (omega arith) }
new_once seen (b ∷ r) h = elim (cases_Bool (get_or seen b true)) [
  | inl s ↦ absurd (is_and_not h (cond-true _ _ _ s))
  | inr s ↦ more s (new_once (set seen b true) r (sym (cond-false _ _ _ s) ∙ h))
]
  where
    more : get_or seen b true ≡ false → New (set seen b true) r → New seen (b ∷ r)
    more s n = record { new = new'; apart = apart' }
      where
        other : (i : ℕ) → i < length r → block_at r i ≢ b
        other i l e = is_and_not (ap (λ c. get_or (set seen b true) c true) e ∙ seen_set seen b) (n.new i l)

        new' : (i : ℕ) → i < suc (length r) → get_or seen (block_at (b ∷ r) i) true ≡ false
        new' zero l = s
        new' (suc i) l = sym (get_or-set_other seen b (block_at r i) true true (other i (omega arith))) ∙ n.new i (omega arith)

        apart' : (i j : ℕ) → i < suc (length r) → j < suc (length r) → block_at (b ∷ r) i ≡ block_at (b ∷ r) j → i ≡ j
        apart' zero zero k l e = refl
        apart' zero (suc j) k l e = absurd (other j (omega arith) (sym e))
        apart' (suc i) zero k l e = absurd (other i (omega arith) e)
        apart' (suc i) (suc j) k l e = ap suc (n.apart i j (omega arith) (omega arith) e)

once_new : (seen : List Bool) (r : List ℕ) → New seen r → once seen r ≡ true
once_new seen [] n = refl
once_new seen (b ∷ r) n =
    cond-false _ _ _ (n.new 0 (omega arith)) ∙ once_new (set seen b true) r (record {
      new = λ i l. get_or-set_other seen b (block_at r i) true true (λ e. let z : suc i ≡ 0 = n.apart (suc i) 0 (omega arith) (omega arith) e in omega arith) ∙ n.new (suc i) (omega arith);
      apart = λ i j k l e. let z : suc i ≡ suc j = n.apart (suc i) (suc j) (omega arith) (omega arith) e in omega arith;
    })

unseen : (n b : ℕ) → get_or (replicate n false) b true ≡ false → b < n
unseen n b h = elim (cases_lt b n) [ inl l ↦ l | inr l ↦ absurd (is_and_not (get_or_past (replicate n false) b true (omega (arith, length-replicate n false))) h) ]

pub decides_distinct : (bs : List Block) (r : List ℕ) → Decides (blocks_once (length bs) r) (Distinct bs r)
decides_distinct bs r = (
  λ h. (let p = and_parts (leb 2 (length r)) _ h in let n = new_once _ r p.1 in record { two = leb-true 2 (length r) p.0; exist = λ i l. unseen (length bs) (block_at r i) (n.new i l); once = n.apart }),
  λ d. and_from _ _ (le-leb 2 (length r) d.two) (once_new _ r (record { new = λ i l. get_or-replicate (length bs) (block_at r i) false true (d.exist i l); apart = d.once })),
)

-- Borders

outer_of_is : (j : Joint) (e : ℕ) (other : Option ℕ) (f : ℕ) → outer_of j e other ≡ Some f → ((f ≡ e) × (j ≡ Outer)) ⊎ (other ≡ Some f)
outer_of_is Outer e other f h = inl (cc, refl)
outer_of_is (Joined c g) e other f h = inr h

outer_end_is : (x : Block) (e : ℕ) → outer_end x ≡ Some e → slice_get (ends_of x) e ≡ Some Outer
outer_end_is (Plain a b) e h = elim (outer_of_is a 0 (outer_of b 1 None) e h) [
  | inl p ↦ ap (slice_get (a ∷ b ∷ [])) p.0 ∙ ap Some p.1
  | inr q ↦ elim (outer_of_is b 1 None e q) [ inl p ↦ ap (slice_get (a ∷ b ∷ [])) p.0 ∙ ap Some p.1 | inr z ↦ absurd (clash refl z) ]
]
outer_end_is (Point a b c) e h = absurd (clash refl h)
outer_end_is (Crossing a b c d) e h = absurd (clash refl h)

-- a plain block with an outer end has an answer
outer_end_some : (a b : Joint) (e : ℕ) → slice_get (a ∷ b ∷ []) e ≡ Some Outer → (f : ℕ) × (outer_end (Plain a b) ≡ Some f)
outer_end_some Outer b e h = (0, refl)
outer_end_some (Joined c g) Outer e h = (1, refl)
outer_end_some (Joined c g) (Joined d k) zero h = absurd (outer_joined h refl)
outer_end_some (Joined c g) (Joined d k) (suc zero) h = absurd (outer_joined h refl)
outer_end_some (Joined c g) (Joined d k) (suc (suc e)) h = absurd (clash refl h)

abbrev pub AllMeet : List Block → Type 0
AllMeet bs = (ρ : BlockRule) (b : ℕ) → b < length bs → BlockMeets bs ρ b

border_in : (o : Option Block) (e : ℕ) → outer_end_at o ≡ Some e → joint_in o e ≡ Some Outer
border_in None e h = absurd (clash refl h)
border_in (Some x) e h = outer_end_is x e h

in_border : (o : Option Block) (e : ℕ) → (option_map kind_of o ≡ Some PlainKind) × ((f : ℕ) → joint_in o f ≡ Some Outer → f ≡ e) → joint_in o e ≡ Some Outer → outer_end_at o ≡ Some e
in_border None e m h = absurd (clash refl h)
in_border (Some (Plain a b)) e m h = let f = outer_end_some a b e h in f.1 ∙ ap Some (m.1 f.0 (outer_end_is (Plain a b) f.0 f.1))
in_border (Some (Point a b c)) e m h = absurd (kinds_apart (same_some refl m.0) (inl refl))
in_border (Some (Crossing a b c d)) e m h = absurd (kinds_apart (same_some refl m.0) (inr refl))

-- an end is an end of a block that exists
joint_in_some : (o : Option Block) (e : ℕ) (j : Joint) → joint_in o e ≡ Some j → (x : Block) × (o ≡ Some x)
joint_in_some None e j h = absurd (clash refl h)
joint_in_some (Some x) e j h = (x, refl)

pub joint_there : (bs : List Block) (b e : ℕ) (j : Joint) → joint_of bs b e ≡ Some j → b < length bs
joint_there bs b e j h = let x = joint_in_some (slice_get bs b) e j h in slice_get_within bs b x.0 x.1

-- the outer end of a border block is the one that the test finds
pub border_is : (bs : List Block) (b e : ℕ) → border bs b ≡ Some e → joint_of bs b e ≡ Some Outer
border_is bs b e h = border_in (slice_get bs b) e h

pub is_border : (bs : List Block) → AllMeet bs → (b e : ℕ) → joint_of bs b e ≡ Some Outer → border bs b ≡ Some e
is_border bs m b e h = in_border (slice_get bs b) e (m OuterEnds b (joint_there bs b e Outer h) e h) h

-- Ways

end_true : (o : Option ℕ) (f : ℕ) → is_end o f ≡ true → o ≡ Some f
end_true None f h = absurd (is_and_not h refl)
end_true (Some e) f h = ap Some (eqb-true e f h)

decides_leads : (k : Kind) (e f : ℕ) (p : Position) → Decides (leads k e f p) (Leads k e f p)
decides_leads k e f p = (end_true (way_of k e p) f, λ h. ap (λ o. is_end o f) h ∙ eq-eqb f f refl)

module _ (k : Kind) (e f : ℕ) where
  -- the position needed, by the two tests
  abbrev chosen : Bool → Bool → Option (Option Position)
  chosen x y = cond x (cond y (Some None) (Some (Some Left))) (cond y (Some (Some Right)) None)

  chosen_is : (x y : Bool) → Decides x (Leads k e f Left) → Decides y (Leads k e f Right) → (n : Option Position) → chosen x y ≡ Some n → Needs k e f n
  chosen_is true true p q n h = subst (Needs k e f) (same_some refl h) (p.0 refl, q.0 refl)
  chosen_is true false p q n h = subst (Needs k e f) (same_some refl h) (p.0 refl, λ r. is_and_not (q.1 r) refl)
  chosen_is false true p q n h = subst (Needs k e f) (same_some refl h) (q.0 refl, λ r. is_and_not (p.1 r) refl)
  chosen_is false false p q n h = absurd (clash refl h)

  is_chosen : (x y : Bool) → Decides x (Leads k e f Left) → Decides y (Leads k e f Right) → (n : Option Position) → Needs k e f n → chosen x y ≡ Some n
  is_chosen true true p q None h = refl
  is_chosen true true p q (Some Left) h = absurd (h.1 (q.0 refl))
  is_chosen true true p q (Some Right) h = absurd (h.1 (p.0 refl))
  is_chosen true false p q None h = absurd (is_and_not (q.1 h.1) refl)
  is_chosen true false p q (Some Left) h = refl
  is_chosen true false p q (Some Right) h = absurd (h.1 (p.0 refl))
  is_chosen false true p q None h = absurd (is_and_not (p.1 h.0) refl)
  is_chosen false true p q (Some Left) h = absurd (h.1 (q.0 refl))
  is_chosen false true p q (Some Right) h = refl
  is_chosen false false p q None h = absurd (is_and_not (p.1 h.0) refl)
  is_chosen false false p q (Some Left) h = absurd (is_and_not (p.1 h.0) refl)
  is_chosen false false p q (Some Right) h = absurd (is_and_not (q.1 h.0) refl)

  pub needed_is : (n : Option Position) → needed k e f ≡ Some n → Needs k e f n
  needed_is n h = chosen_is (leads k e f Left) (leads k e f Right) (decides_leads k e f Left) (decides_leads k e f Right) n h

  pub is_needed : (n : Option Position) → Needs k e f n → needed k e f ≡ Some n
  is_needed n h = is_chosen (leads k e f Left) (leads k e f Right) (decides_leads k e f Left) (decides_leads k e f Right) n h

-- Steps

-- block b is left by the end l: outward, or towards the next block, which is entered by f
abbrev Onward : List Block → ℕ → ℕ → Option ℕ → ℕ → Type 0
Onward bs b l None f = (joint_of bs b l ≡ Some Outer) × (f ≡ 0)
Onward bs b l (Some c) f = joint_of bs b l ≡ Some (Joined c f)

outward_is : (o : Option ℕ) (t : ℕ × ℕ) → outward o ≡ Some t → (o ≡ Some t.0) × (t.1 ≡ 0)
outward_is None t h = absurd (clash refl h)
outward_is (Some e) t h = let same : (e, 0) ≡ t = same_some refl h in (ap (λ (q : ℕ × ℕ). Some q.0) same, sym (ap (λ (q : ℕ × ℕ). q.1) same))

module _ (bs : List Block) (b : ℕ) (x : Block) (there : slice_get bs b ≡ Some x) where
  onward_is : (next : Option ℕ) (t : ℕ × ℕ) → onward x next ≡ Some t → Onward bs b t.0 next t.1
  onward_is None t h = let o = outward_is (outer_end x) t h in (joint_here bs b x there t.0 ∙ outer_end_is x t.0 o.0, o.1)
  onward_is (Some c) t h =
      let o = towards_is (ends_of x) 0 c t h in
      joint_here bs b x there t.0 ∙ ap (slice_get (ends_of x)) (o.1 ∙ zero-add o.0) ∙ o.2

  is_onward : AllMeet bs → (next : Option ℕ) (l f : ℕ) → Onward bs b l next f → onward x next ≡ Some (l, f)
  is_onward m None l f h = ap outward (ap outer_end_at (sym there) ∙ is_border bs m b l h.0) ∙ ap (λ n. Some (l, n)) (sym h.1)
  is_onward m (Some c) l f h = towards_only bs b x there (m JointsMutual b (slice_get_within bs b x there)) l c f h

-- s is the step through block b, entered by e, on to the next block, which is entered by f
record Goes (bs : List Block) (b e : ℕ) (next : Option ℕ) (s : Step) (f : ℕ) : Type 0 where
  through : s.block ≡ b
  from : s.entered ≡ e
  passes : Passes bs s
  on : Onward bs b s.left next f

with_needs_is : (b e : ℕ) (t : ℕ × ℕ) (o : Option (Option Position)) (q : Step × ℕ) → with_needs b e t o ≡ Some q → (n : Option Position) × (o ≡ Some n) × ((record { block = b; entered = e; left = t.0; needs = n }, t.1) ≡ q)
with_needs_is b e t None q h = absurd (clash refl h)
with_needs_is b e t (Some n) q h = (n, refl, same_some refl h)

step_by_is : (b e : ℕ) (x : Block) (o : Option (ℕ × ℕ)) (q : Step × ℕ) → step_by b e x o ≡ Some q → (t : ℕ × ℕ) × (o ≡ Some t) × (with_needs b e t (needed (kind_of x) e t.0) ≡ Some q)
step_by_is b e x None q h = absurd (clash refl h)
step_by_is b e x (Some t) q h = (t, refl, h)

step_in_is : (b e : ℕ) (next : Option ℕ) (o : Option Block) (q : Step × ℕ) → step_in b e next o ≡ Some q → (x : Block) × (o ≡ Some x) × (step_by b e x (onward x next) ≡ Some q)
step_in_is b e next None q h = absurd (clash refl h)
step_in_is b e next (Some x) q h = (x, refl, h)

step_goes : (bs : List Block) (b e : ℕ) (next : Option ℕ) (q : Step × ℕ) → step_of bs b e next ≡ Some q → Goes bs b e next q.0 q.1
step_goes bs b e next q h =
    let x = step_in_is b e next (slice_get bs b) q h in
    let t = step_by_is b e x.0 (onward x.0 next) q x.2 in
    let n = with_needs_is b e t.0 (needed (kind_of x.0) e t.0.0) q t.2 in
    subst (λ (p : Step × ℕ). Goes bs b e next p.0 p.1) n.2 (record {
      through = refl;
      from = refl;
      passes = record { kind = kind_of x.0; is = ap (option_map kind_of) x.1; needs = needed_is (kind_of x.0) e t.0.0 n.0 n.1 };
      on = onward_is bs b x.0 x.1 next t.0 t.1;
    })

kind_some : (o : Option Block) (k : Kind) → option_map kind_of o ≡ Some k → (x : Block) × (o ≡ Some x) × (kind_of x ≡ k)
kind_some None k h = absurd (clash refl h)
kind_some (Some x) k h = (x, refl, same_some refl h)

goes_step : (bs : List Block) → AllMeet bs → (b e : ℕ) (next : Option ℕ) (s : Step) (f : ℕ) → Goes bs b e next s f → step_of bs b e next ≡ Some (s, f)
goes_step bs m b e next s f g =
    let x = kind_some (slice_get bs b) g.passes.kind (ap (kind_at bs) (sym g.through) ∙ g.passes.is) in
    let needs = is_needed (kind_of x.0) s.entered s.left s.needs (subst (λ k. Needs k s.entered s.left s.needs) (sym x.2) g.passes.needs) in
    ap (step_in b e next) x.1 ∙ ap (step_by b e x.0) (is_onward bs b x.0 x.1 m next s.left f g.on) ∙ ap (λ d. with_needs b d (s.left, f) (needed (kind_of x.0) d s.left)) (sym g.from) ∙ ap (λ c. with_needs c s.entered (s.left, f) (needed (kind_of x.0) s.entered s.left)) (sym g.through) ∙ ap (with_needs s.block s.entered (s.left, f)) needs

-- the steps ss run through the blocks r, the first of which is entered by e
record Runs (bs : List Block) (e : ℕ) (r : List ℕ) (ss : List Step) : Type 0 where
  long : length ss ≡ length r
  blocks : (i : ℕ) → i < length r → (step_at ss i).block ≡ block_at r i
  enters : 0 < length r → (step_at ss 0).entered ≡ e
  joins : (i : ℕ) → suc i < length r → joint_of bs (block_at r i) (step_at ss i).left ≡ Some (Joined (block_at r (suc i)) (step_at ss (suc i)).entered)
  leaves : (i : ℕ) → suc i ≡ length r → joint_of bs (block_at r i) (step_at ss i).left ≡ Some Outer
  passes : (i : ℕ) → i < length r → Passes bs (step_at ss i)

on_joins : (bs : List Block) (b l f : ℕ) (r : List ℕ) → Onward bs b l (slice_get r 0) f → 0 < length r → joint_of bs b l ≡ Some (Joined (block_at r 0) f)
on_joins bs b l f [] h k = absurd (omega arith)
on_joins bs b l f (c ∷ r) h k = h

on_leaves : (bs : List Block) (b l f : ℕ) (r : List ℕ) → Onward bs b l (slice_get r 0) f → length r ≡ 0 → joint_of bs b l ≡ Some Outer
on_leaves bs b l f [] h k = h.0
on_leaves bs b l f (c ∷ r) h k = absurd (omega arith)

runs_none : (bs : List Block) (e : ℕ) → Runs bs e [] []
runs_none bs e = record {
  long = refl;
  blocks = λ i l. absurd (omega arith);
  enters = λ l. absurd (omega arith);
  joins = λ i l. absurd (omega arith);
  leaves = λ i l. absurd (omega arith);
  passes = λ i l. absurd (omega arith);
}

module _ (bs : List Block) (b e : ℕ) (r : List ℕ) (s : Step) (ts : List Step) where
  runs_more : (f : ℕ) → Goes bs b e (slice_get r 0) s f → Runs bs f r ts → Runs bs e (b ∷ r) (s ∷ ts)
  runs_more f g t = record { long = ap suc t.long; blocks = blocks'; enters = λ l. g.from; joins = joins'; leaves = leaves'; passes = passes' }
    where
      blocks' : (i : ℕ) → i < suc (length r) → (step_at (s ∷ ts) i).block ≡ block_at (b ∷ r) i
      blocks' zero l = g.through
      blocks' (suc i) l = t.blocks i (omega arith)

      joins' : (i : ℕ) → suc i < suc (length r) → joint_of bs (block_at (b ∷ r) i) (step_at (s ∷ ts) i).left ≡ Some (Joined (block_at r i) (step_at ts i).entered)
      joins' zero l = on_joins bs b s.left f r g.on (omega arith) ∙ ap (λ n. Some (Joined (block_at r 0) n)) (sym (t.enters (omega arith)))
      joins' (suc i) l = t.joins i (omega arith)

      leaves' : (i : ℕ) → suc i ≡ suc (length r) → joint_of bs (block_at (b ∷ r) i) (step_at (s ∷ ts) i).left ≡ Some Outer
      leaves' zero l = on_leaves bs b s.left f r g.on (omega arith)
      leaves' (suc i) l = t.leaves i (omega arith)

      passes' : (i : ℕ) → i < suc (length r) → Passes bs (step_at (s ∷ ts) i)
      passes' zero l = g.passes
      passes' (suc i) l = t.passes i (omega arith)

  runs_rest : Runs bs e (b ∷ r) (s ∷ ts) → Runs bs (step_at ts 0).entered r ts
  runs_rest t = record {
    long = let l = t.long in omega arith;
    blocks = λ i l. t.blocks (suc i) (omega arith);
    enters = λ l. refl;
    joins = λ i l. t.joins (suc i) (omega arith);
    leaves = λ i l. t.leaves (suc i) (omega arith);
    passes = λ i l. t.passes (suc i) (omega arith);
  }

runs_on : (bs : List Block) (b e : ℕ) (r : List ℕ) (s : Step) (ts : List Step) → Runs bs e (b ∷ r) (s ∷ ts) → Onward bs b s.left (slice_get r 0) (step_at ts 0).entered
runs_on bs b e [] s [] t = (t.leaves 0 refl, refl)
runs_on bs b e [] s (u ∷ ts) t = absurd (let l = t.long in omega arith)
runs_on bs b e (c ∷ r) s ts t = t.joins 0 (omega arith)

runs_goes : (bs : List Block) (b e : ℕ) (r : List ℕ) (s : Step) (ts : List Step) → Runs bs e (b ∷ r) (s ∷ ts) → Goes bs b e (slice_get r 0) s (step_at ts 0).entered
runs_goes bs b e r s ts t = record { through = t.blocks 0 (omega arith); from = t.enters (omega arith); passes = t.passes 0 (omega arith); on = runs_on bs b e r s ts t }

after_steps_is : (s : Step) (o : Option (List Step)) (ss : List Step) → after_steps (s ∷ []) o ≡ Some ss → (ts : List Step) × (o ≡ Some ts) × (s ∷ ts ≡ ss)
after_steps_is s None ss h = absurd (clash refl h)
after_steps_is s (Some ts) ss h = (ts, refl, same_some refl h)

then_traced_is : (o : Option (Step × ℕ)) (k : ℕ → Option (List Step)) (ss : List Step) → then_traced o k ≡ Some ss → (q : Step × ℕ) × (ts : List Step) × (o ≡ Some q) × (k q.1 ≡ Some ts) × (q.0 ∷ ts ≡ ss)
then_traced_is None k ss h = absurd (clash refl h)
then_traced_is (Some q) k ss h = let t = after_steps_is q.0 (k q.1) ss h in (q, t.0, refl, t.1, t.2)

traced_runs : (bs : List Block) (r : List ℕ) (e : ℕ) (ss : List Step) → traced bs e r ≡ Some ss → Runs bs e r ss
traced_runs bs [] e ss h = subst (Runs bs e []) (same_some refl h) (runs_none bs e)
traced_runs bs (b ∷ r) e ss h =
    let t = then_traced_is (step_of bs b e (slice_get r 0)) (λ f. traced bs f r) ss h in
    subst (Runs bs e (b ∷ r)) t.4 (runs_more bs b e r t.0.0 t.1 t.0.1 (step_goes bs b e (slice_get r 0) t.0 t.2) (traced_runs bs r t.0.1 t.1 t.3))

runs_traced : (bs : List Block) → AllMeet bs → (r : List ℕ) (e : ℕ) (ss : List Step) → Runs bs e r ss → traced bs e r ≡ Some ss
runs_traced bs m [] e [] t = refl
runs_traced bs m [] e (s ∷ ss) t = absurd (let l = t.long in omega arith)
runs_traced bs m (b ∷ r) e [] t = absurd (let l = t.long in omega arith)
runs_traced bs m (b ∷ r) e (s ∷ ss) t =
    ap (λ o. then_traced o (λ f. traced bs f r)) (goes_step bs m b e (slice_get r 0) s (step_at ss 0).entered (runs_goes bs b e r s ss t)) ∙ ap (after_steps (s ∷ [])) (runs_traced bs m r (step_at ss 0).entered ss (runs_rest bs b e r s ss t))

-- Routes

follows_runs : (bs : List Block) (r : List ℕ) (ss : List Step) → Follows bs r ss → Runs bs (step_at ss 0).entered r ss
follows_runs bs r ss f = record { long = f.long; blocks = f.blocks; enters = λ l. refl; joins = f.joins; leaves = f.leaves; passes = f.passes }

-- the steps traced from an outer end are those of the route, and no others are
pub traced_follows : (bs : List Block) (r : List ℕ) (e : ℕ) (ss : List Step) → 0 < length r → joint_of bs (block_at r 0) e ≡ Some Outer → traced bs e r ≡ Some ss → Follows bs r ss
traced_follows bs r e ss l o h =
    let t = traced_runs bs r e ss h in
    record { long = t.long; blocks = t.blocks; enters = ap (joint_of bs (block_at r 0)) (t.enters l) ∙ o; joins = t.joins; leaves = t.leaves; passes = t.passes }

pub follows_traced : (bs : List Block) → AllMeet bs → (r : List ℕ) (e : ℕ) (ss : List Step) → joint_of bs (block_at r 0) e ≡ Some Outer → Follows bs r ss → traced bs e r ≡ Some ss
follows_traced bs m r e ss o f =
    let same = (m OuterEnds (block_at r 0) (joint_there bs (block_at r 0) e Outer o) e o).1 (step_at ss 0).entered f.enters in
    ap (λ d. traced bs d r) (sym same) ∙ runs_traced bs m r (step_at ss 0).entered ss (follows_runs bs r ss f)

pub follows_only : (bs : List Block) → AllMeet bs → (r : List ℕ) (ss ts : List Step) → Follows bs r ss → Follows bs r ts → ss ≡ ts
follows_only bs m r ss ts f g = same_some (follows_traced bs m r (step_at ss 0).entered ss f.enters f) (follows_traced bs m r (step_at ss 0).entered ts f.enters g)

-- what a judgement of a route says
abbrev pub RouteJudged : List Block → List ℕ → Result (List Step) RouteRule → Type 0
RouteJudged bs r (Ok ss) = ((ρ : RouteRule) → RouteMeets bs ρ r) × Follows bs r ss
RouteJudged bs r (Err ρ) = (RouteMeets bs ρ r → ⊥) × ((σ : RouteRule) → route_rank σ < route_rank ρ → RouteMeets bs σ r)

module _ (bs : List Block) (m : AllMeet bs) (r : List ℕ) (d : Distinct bs r) where
  first_rule : (σ : RouteRule) → route_rank σ < 1 → RouteMeets bs σ r
  first_rule Blocks l = d
  first_rule Borders l = absurd (omega arith)
  first_rule Ways l = absurd (omega arith)

  two_rules : RouteMeets bs Borders r → (σ : RouteRule) → route_rank σ < 2 → RouteMeets bs σ r
  two_rules b Blocks l = d
  two_rules b Borders l = b
  two_rules b Ways l = absurd (omega arith)

  three_rules : RouteMeets bs Borders r → RouteMeets bs Ways r → (σ : RouteRule) → RouteMeets bs σ r
  three_rules b w Blocks = d
  three_rules b w Borders = b
  three_rules b w Ways = w

  traced_judged : (e : ℕ) → joint_of bs (block_at r 0) e ≡ Some Outer → RouteMeets bs Borders r → (o : Option (List Step)) → traced bs e r ≡ o → RouteJudged bs r (traced_or o)
  traced_judged e out b None h = (λ w. clash h (follows_traced bs m r e w.0 out w.1), two_rules b)
  traced_judged e out b (Some ss) h = let f = traced_follows bs r e ss (omega (arith, d.two)) out h in (three_rules b (ss, f), f)

  from_judged : (o p : Option ℕ) → border bs (block_at r 0) ≡ o → border bs (block_at r (length r - 1)) ≡ p → RouteJudged bs r (trace_from bs r o p)
  from_judged None p h k = (λ b. clash h (is_border bs m (block_at r 0) b.0.0 b.0.1), first_rule)
  from_judged (Some e) None h k =
      (λ b. (let last = b.1 (length r - 1) (omega (arith, d.two)) in clash k (is_border bs m (block_at r (length r - 1)) last.0 last.1)), first_rule)
  from_judged (Some e) (Some f) h k =
      traced_judged e (border_is bs (block_at r 0) e h) ((e, border_is bs (block_at r 0) e h), λ i l. (f, border_is bs (block_at r i) f (ap (λ n. border bs (block_at r n)) (omega arith) ∙ k))) (traced bs e r) refl

pub route_judged : (bs : List Block) → AllMeet bs → (r : List ℕ) → RouteJudged bs r (judge_route bs r)
route_judged bs m r = elim (cases_Bool (blocks_once (length bs) r)) [
  | inl h ↦ subst (RouteJudged bs r) (sym (cond-true _ _ _ h)) (from_judged bs m r ((decides_distinct bs r).0 h) (border bs (block_at r 0)) (border bs (block_at r (length r - 1))) refl refl)
  | inr h ↦ subst (RouteJudged bs r) (sym (cond-false _ _ _ h)) (λ d. is_and_not ((decides_distinct bs r).1 d) h, λ σ l. absurd (omega arith))
]
