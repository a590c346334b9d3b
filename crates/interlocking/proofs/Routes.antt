-- The layout of an accepted plan: its routes can be run, and a ground that is built as the plan says agrees with it.
use Rattle.std.proofs.Common.{◌≡◌, ℕ, zero, suc, ◌<◌, ◌≤◌, ◌⊎◌, List, [], map, length, Some, None, Option, sym, refl, ap, ◌∙◌, ap₂, inl, inr, arith}
use Rattle.std.proofs.lemmas.List.{get_or_past}
use Rattle.std.proofs.lemmas.Bool.{cases_lt}
use Rattle.std.specs.Option.{option_map}
use Rattle.std.specs.List.{slice_get}
use Rattle.network.specs.declared.track.Kind.{Kind}
use Rattle.network.specs.declared.track.Kind.TheVariants.{Plain as PlainKind, Point as PointKind, Crossing as CrossingKind}
use Rattle.network.specs.declared.track.Position.{Position}
use Rattle.network.specs.declared.track.Position.TheVariants.{Left, Right}
use Rattle.network.specs.declared.track.Joint.{Joint}
use Rattle.network.specs.declared.track.Joint.TheVariants.{Outer, Joined}
use Rattle.network.specs.declared.track.Block.{Block}
use Rattle.network.specs.declared.track.Block.TheVariants.{Plain, Point, Crossing}
use Rattle.network.specs.declared.route.Step.{Step as RouteStep}
use Rattle.network.specs.declared.rules.RouteRule.TheVariants.{Blocks}
use Rattle.network.specs.Track.{kind_of}
use Rattle.network.specs.Ways.{way_of}
use Rattle.network.specs.Joints.{joint_in, joint_of}
use Rattle.network.specs.Judge.{Plan, outer_end_at, border}
use Rattle.network.specs.Rules.{kind_at, Needs, Follows, block_at, step_at, route_at, steps_at}
use Rattle.network.specs.Routes.{blocks_in}
use Rattle.network.specs.Sheets.{PlanLawful}
use Rattle.network.proofs.RouteRules.{is_border}
use Rattle.trackside.specs.declared.answers.Stand.{Stand}
use Rattle.trackside.specs.Ground.{Ground, ends_count, outer_first, lamp_end_of, lamp_end, way_in, way_on, WellMade}
use Rattle.trackside.specs.Laws.{Built}
use Rattle.interlocking.proofs.Argument.{none_some}
use Rattle.interlocking.proofs.Track.{Step, Layout, Suits, Sound}

-- a step of a route, as a train that runs it stands there
abbrev pub step_of : RouteStep → Step
step_of s = record { stand = record { block = s.block; entered = s.entered }; left = s.left; needs = s.needs }

-- where a train stands that has gone across a joint: nowhere past an outer end
abbrev pub across : Joint → Option Stand
across Outer = None
across (Joined c f) = Some (record { block = c; entered = f })

-- nor past an end that does not exist
abbrev pub across_if : Option Joint → Option Stand
across_if None = None
across_if (Some j) = across j

-- the layout that a plan describes
abbrev pub layout : Plan → Layout
layout p = record {
  len = λ r. length (steps_at p.routes r);
  step = λ r i. step_of (step_at (steps_at p.routes r) i);
  way = λ b q e. way_in (kind_at p.blocks b) e q;
  joint = λ b e. across_if (joint_of p.blocks b e);
  gate = λ b. border p.blocks b;
}

-- a ground has the plan's blocks, of the plan's kinds, joined as in the plan
pub record BuiltAs (p : Plan) (g : Ground) : Type 0 where
  pub count : g.count ≡ length p.blocks
  pub kind : (b : ℕ) → g.kind b ≡ kind_at p.blocks b
  pub joint : (b e : ℕ) (j : Joint) → joint_of p.blocks b e ≡ Some j → g.joint b e ≡ j

-- a way that needs a position leads where the point lies in it, and a way that needs none leads always
way_leads : (k : Kind) (e f : ℕ) (n : Option Position) → Needs k e f n → (p : Position) → Suits n p → way_of k e p ≡ Some f
way_leads k e f None h Left u = h.0
way_leads k e f None h Right u = h.1
way_leads k e f (Some Left) h p u = ap (way_of k e) u ∙ h.0
way_leads k e f (Some Right) h p u = ap (way_of k e) u ∙ h.0

-- the routes of an accepted plan
module _ (p : Plan) (law : PlanLawful p) where
  -- the blocks of route r, as its line of the sheet lists them
  abbrev listed : ℕ → List ℕ
  listed r = route_at (map blocks_in p.routes) r

  -- a route that has a step is one of the plan's
  there : (r : ℕ) → 0 < length (steps_at p.routes r) → r < length (map blocks_in p.routes)
  there r some = elim (cases_lt r (length p.routes)) [
    | inl l ↦ omega (arith, l, law.long)
    | inr l ↦ absurd (omega (arith, some, ap length (get_or_past p.routes r [] l)))
  ]

  -- its steps follow its line
  follows : (r : ℕ) → 0 < length (steps_at p.routes r) → Follows p.blocks (listed r) (steps_at p.routes r)
  follows r some = law.steps r (there r some)

  -- a step of a route is a step of its line
  listed_too : (r i : ℕ) → i < length (steps_at p.routes r) → i < length (listed r)
  listed_too r i l = omega (arith, l, (follows r (omega arith)).long)

  -- and has its block
  same_block : (r i : ℕ) → i < length (steps_at p.routes r) → (step_at (steps_at p.routes r) i).block ≡ block_at (listed r) i
  same_block r i l = (follows r (omega arith)).blocks i (listed_too r i l)

  -- and a block of the plan
  pub exists : (r i : ℕ) → i < length (steps_at p.routes r) → (step_at (steps_at p.routes r) i).block < length p.blocks
  exists r i l =
      omega (arith, same_block r i l, (law.routes Blocks r (there r (omega arith))).exist i (listed_too r i l))

  -- a route of the plan has a step
  pub has_steps : (r : ℕ) → r < length p.routes → 0 < length (steps_at p.routes r)
  has_steps r l =
      let m : r < length (map blocks_in p.routes) = omega (arith, law.long) in
      omega (arith, (law.routes Blocks r m).two, (law.steps r m).long)

  -- and a route that has a step is one of the plan
  pub is_planned : (r : ℕ) → 0 < length (steps_at p.routes r) → r < length p.routes
  is_planned r some = omega (arith, there r some, law.long)

  -- no block of a route is in it twice
  once : (r i j : ℕ) → i < length (steps_at p.routes r) → j < length (steps_at p.routes r) → (step_at (steps_at p.routes r) i).block ≡ (step_at (steps_at p.routes r) j).block → i ≡ j
  once r i j l m e =
      (law.routes Blocks r (there r (omega arith))).once i j (listed_too r i l) (listed_too r j m) (sym (same_block r i l) ∙ e ∙ same_block r j m)

  -- from the end by which a step enters its block a way leads to the end by which it leaves, if the point lies as needed
  leads : (r i : ℕ) → i < length (steps_at p.routes r) → (q : Position) → Suits (step_at (steps_at p.routes r) i).needs q → way_in (kind_at p.blocks (step_at (steps_at p.routes r) i).block) (step_at (steps_at p.routes r) i).entered q ≡ Some (step_at (steps_at p.routes r) i).left
  leads r i l q u =
      let t = (follows r (omega arith)).passes i (listed_too r i l) in
      ap (λ k. way_in k (step_at (steps_at p.routes r) i).entered q) t.is ∙ way_leads t.kind _ _ (step_at (steps_at p.routes r) i).needs t.needs q u

  -- every route of an accepted plan can be run
  pub sound : Sound (layout p)
  sound = record {
    distinct = once;
    leads = leads;
    joins = λ r i l.
        let m : i < length (steps_at p.routes r) = omega arith in
        ap (λ b. across_if (joint_of p.blocks b (step_at (steps_at p.routes r) i).left)) (same_block r i m)
        ∙ ap across_if ((follows r (omega arith)).joins i (listed_too r (suc i) l))
        ∙ ap (λ b. across (Joined b (step_at (steps_at p.routes r) (suc i)).entered)) (sym (same_block r (suc i) l));
    begins = λ r l.
        ap (border p.blocks) (same_block r 0 l) ∙ is_border p.blocks law.blocks _ _ (follows r l).enters;
    ends = λ r i e.
        let m : i < length (steps_at p.routes r) = omega arith in
        ap (λ b. across_if (joint_of p.blocks b (step_at (steps_at p.routes r) i).left)) (same_block r i m)
        ∙ ap across_if ((follows r (omega arith)).leaves i (omega (arith, e, (follows r (omega arith)).long)));
  }

-- what is built as a plan says stays so
pub stays_built : (p : Plan) (g h : Ground) → BuiltAs p g → Built g h → BuiltAs p h
stays_built p g h a b = record {
  count = b.count ∙ a.count;
  kind = λ c. b.kind c ∙ a.kind c;
  joint = λ c e j i. b.joint c e ∙ a.joint c e j i;
}

-- a lamp stands at the outer end of a border block, read from the ground or from the plan
lamp_in : (o : Option Block) (i j : Joint) → ((k : Joint) → joint_in o 0 ≡ Some k → i ≡ k) → ((k : Joint) → joint_in o 1 ≡ Some k → j ≡ k) → lamp_end_of (option_map kind_of o) i j ≡ outer_end_at o
lamp_in None i j f h = refl
lamp_in (Some (Plain a b)) i j f h = ap₂ outer_first (f a refl) (h b refl) ∙ outer_same a b
  where
    outer_same : (a b : Joint) → outer_first a b ≡ outer_end_at (Some (Plain a b))
    outer_same Outer b = refl
    outer_same (Joined c e) Outer = refl
    outer_same (Joined c e) (Joined d f) = refl
lamp_in (Some (Point a b c)) i j f h = refl
lamp_in (Some (Crossing a b c d)) i j f h = refl

-- an end that a plan does not have: there is no such block, or it has fewer ends
no_end_in : (o : Option Block) (e : ℕ) → joint_in o e ≡ None → (option_map kind_of o ≡ None) ⊎ ((k : Kind) × (option_map kind_of o ≡ Some k) × (ends_count k ≤ e))
no_end_in None e n = inl refl
no_end_in (Some (Plain a b)) zero n = absurd (none_some n refl)
no_end_in (Some (Plain a b)) (suc zero) n = absurd (none_some n refl)
no_end_in (Some (Plain a b)) (suc (suc e)) n = inr (PlainKind, refl, omega arith)
no_end_in (Some (Point a b c)) zero n = absurd (none_some n refl)
no_end_in (Some (Point a b c)) (suc zero) n = absurd (none_some n refl)
no_end_in (Some (Point a b c)) (suc (suc zero)) n = absurd (none_some n refl)
no_end_in (Some (Point a b c)) (suc (suc (suc e))) n = inr (PointKind, refl, omega arith)
no_end_in (Some (Crossing a b c d)) zero n = absurd (none_some n refl)
no_end_in (Some (Crossing a b c d)) (suc zero) n = absurd (none_some n refl)
no_end_in (Some (Crossing a b c d)) (suc (suc zero)) n = absurd (none_some n refl)
no_end_in (Some (Crossing a b c d)) (suc (suc (suc zero))) n = absurd (none_some n refl)
no_end_in (Some (Crossing a b c d)) (suc (suc (suc (suc e)))) n = inr (CrossingKind, refl, omega arith)

-- the joint at an end, read from the ground or from the plan
joint_in_both : (o : Option Joint) (j : Joint) → ((k : Joint) → o ≡ Some k → j ≡ k) → (o ≡ None → j ≡ Outer) → across_if o ≡ across j
joint_in_both None j f h = sym (ap across (h refl))
joint_in_both (Some k) j f h = sym (ap across (f k refl))

-- a ground that is built as a plan says agrees with the plan's layout
module _ (p : Plan) (g : Ground) (a : BuiltAs p g) where
  -- the way on from where a train stands
  pub same_way : (s : Stand) → way_on g s ≡ (layout p).way s.block (g.lies s.block) s.entered
  same_way s = ap (λ k. way_in k s.entered (g.lies s.block)) (a.kind s.block)

  -- the end at which a lamp stands
  pub same_gate : (b : ℕ) → lamp_end g b ≡ (layout p).gate b
  same_gate b = ap (λ k. lamp_end_of k (g.joint b 0) (g.joint b 1)) (a.kind b) ∙ lamp_in (slice_get p.blocks b) _ _ (a.joint b 0) (a.joint b 1)

  -- an outer end of the ground is one of the plan
  pub same_outer : (b e : ℕ) → g.joint b e ≡ Outer → (layout p).joint b e ≡ None
  same_outer b e h = outer_in (joint_of p.blocks b e) (a.joint b e)
    where
      outer_in : (o : Option Joint) → ((k : Joint) → o ≡ Some k → g.joint b e ≡ k) → across_if o ≡ None
      outer_in None f = refl
      outer_in (Some k) f = ap across (sym (f k refl) ∙ h)

  -- what is across any end, of a ground that is well made
  pub same_joint : (most : ℕ) → WellMade most g → (b e : ℕ) → (layout p).joint b e ≡ across (g.joint b e)
  same_joint most made b e = joint_in_both (joint_of p.blocks b e) (g.joint b e) (a.joint b e) none
    where
      none : joint_of p.blocks b e ≡ None → g.joint b e ≡ Outer
      none n = elim (no_end_in (slice_get p.blocks b) e n) [
        | inl m ↦ elim (cases_lt b g.count) [
          | inl l ↦ absurd (none_some (a.kind b ∙ m) (made.known b l).1)
          | inr l ↦ made.unjoined b e l
        ]
        | inr m ↦ made.no_end b e m.0 (a.kind b ∙ m.1) m.2
      ]

  -- a joined end of the ground is one of the plan
  pub same_joined : (most : ℕ) → WellMade most g → (b e c f : ℕ) → g.joint b e ≡ Joined c f → (layout p).joint b e ≡ Some (record { block = c; entered = f })
  same_joined most made b e c f h = same_joint most made b e ∙ ap across h
