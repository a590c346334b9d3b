-- No danger has come about where book, ledger and ground agree.
use Rattle.std.proofs.Common.{◌≡◌, ℕ, ◌+◌, ◌<◌, ◌≤◌, [], length, get_or, Some, None, Ok, sym, ap, ◌∙◌, subst, inl, inr, arith}
use Rattle.std.proofs.lemmas.Option.{slice_get-get_or}
use Rattle.std.proofs.lemmas.Bool.{cases_Bool}
use Rattle.std.specs.List.{slice_get}
use Rattle.network.specs.Judge.{Plan}
use Rattle.network.specs.Rules.{steps_at}
use Rattle.trackside.specs.declared.Look.{Ghosts}
use Rattle.trackside.specs.declared.answers.Stand.{Stand}
use Rattle.trackside.specs.Ground.{Ground, no_stand, train, way_on, WellMade}
use Rattle.book.specs.declared.Book.{Book}
use Rattle.book.specs.declared.state.RouteState.TheVariants.{Reserved}
use Rattle.book.specs.Books.{occupied_in}
use Rattle.book.specs.Guards.{and_then, may_cancel}
use Rattle.book.proofs.Guarded.{ok_err, cancel_allowed}
use Rattle.interlocking.specs.declared.Interlocking.{Interlocking}
use Rattle.interlocking.specs.Calls.{service_of, steps_if, where_held, plan, cancel_guard}
use Rattle.interlocking.specs.Ledger.{Ledger}
use Rattle.interlocking.specs.Trains.{route_length, route_step, There, RouteOf, Ahead, UnderOrAhead, StartsAt, Ready as ReadyRoute}
use Rattle.interlocking.specs.Dangers.{TwoInABlock, WithoutRoute, UnreservedAhead, NoWayOn, FalseGreen, Danger, two_in_a_block, without_route, unreserved_ahead, no_way_on, false_green, lost_block}
use Rattle.interlocking.proofs.Track.{block, Suits, BlockOf, Rides, Ready, Cancellable}
use Rattle.interlocking.proofs.Argument.{none_some, reserved_formed, same_holder, rides_held, rides_under, rides_way, rider, if_reserved, let_goes}
use Rattle.interlocking.proofs.Routes.{layout, sound, is_planned, same_way, same_gate}
use Rattle.interlocking.proofs.LawsToActs.{world}
use Rattle.interlocking.proofs.Agreement.{Fits, sheet_fits, as_occupied, Good}
use Rattle.interlocking.proofs.Movements.{numbered}

-- a plan, and a ground and a ledger that agree with it
module _ (p : Plan) (g : Ground) (l : Ledger) (k : Book) (most : ℕ) (fits : Fits p) (made : WellMade most g) (a : Good p g l k) where
  -- a train that rides a route has it as its route
  abbrev route_from : (j r : ℕ) → Rides (layout p) (world g l) r (train g j) → RouteOf p g l j r
  route_from j r o = record {
    formed = o.runs.is;
    rear = o.rear;
    fits = o.fits;
    stands = o.stands;
    reserved = rides_held (layout p) (world g l) r (train g j) o;
  }

  -- and a train rides the route that it has, from the step that its rear is in
  rides_from : (j r : ℕ) → There g j → (o : RouteOf p g l j r) → (w : Rides (layout p) (world g l) r (train g j)) × (w.rear ≡ o.rear)
  rides_from j r there o = (now, omega (arith, (sound p fits.law).distinct r (now.rear + 0) (o.rear + 0) (omega (arith, now.fits)) (omega (arith, o.fits)) same))
    where
      some : 0 < length (train g j)
      some = made.some_stand j there

      was : (q : ℕ) × Rides (layout p) (world g l) q (train g j)
      was = a.inv.rides j some

      now : Rides (layout p) (world g l) r (train g j)
      now = subst (λ q. Rides (layout p) (world g l) q (train g j)) (same_holder (rides_held (layout p) (world g l) was.0 (train g j) was.1 0 some) (o.reserved 0 some)) was.1

      same : block (layout p) r (now.rear + 0) ≡ block (layout p) r (o.rear + 0)
      same = sym (rides_under (layout p) (world g l) r (train g j) now 0 some) ∙ ap (λ (z : Stand). z.block) (o.stands 0 some)

  -- a block ahead of a train is reserved for its route
  pub ahead_held : (j r b : ℕ) → There g j → Ahead p g l j r b → l.holder b ≡ Some r
  ahead_held j r b there h =
      let w = rides_from j r there h.runs in
      ap l.holder (sym h.is) ∙ w.0.runs.held h.at (omega (arith, w.1, h.later)) h.within

  -- no two trains are in one block
  not_two : TwoInABlock g → ⊥
  not_two d =
      d.different (a.inv.apart d.one d.other d.one_stands.at d.other_stands.at d.one_stands.within d.other_stands.within (d.one_stands.is ∙ sym d.other_stands.is))

  -- every train has a route
  not_without : WithoutRoute p g l → ⊥
  not_without d =
      let w = a.inv.rides d.train (made.some_stand d.train d.there) in
      d.none w.0 (route_from d.train w.0 w.1)

  -- every block ahead of a train is reserved for it
  not_unreserved : UnreservedAhead p g l → ⊥
  not_unreserved d = d.unreserved (ahead_held d.train d.route d.block d.there d.ahead)

  -- from every front a way leads on
  not_wayless : NoWayOn g → ⊥
  not_wayless d =
      let i = d.is_front.0 in
      let w = a.inv.rides d.train (made.some_stand d.train d.there) in
      none_some (ap (way_on g) d.is_front.2 ∙ d.none) (same_way p g a.built (get_or (train g d.train) i no_stand) ∙ rides_way (layout p) (sound p fits.law) (world g l) w.0 (train g d.train) w.1 i (omega (arith, d.is_front.1)))

  -- every green lamp starts a route that a train may be let into
  not_green : FalseGreen p g l → ⊥
  not_green d = d.none r starts ready
    where
      lit : (r : ℕ) × (block (layout p) r 0 ≡ d.block) × Ready (layout p) (world g l) r
      lit = a.inv.lamps d.block d.green

      r : ℕ
      r = lit.0

      starts : StartsAt p g r d.block
      starts = record {
        some = lit.2.real;
        first = lit.1;
        end = same_gate p g a.built d.block ∙ ap (layout p).gate (sym lit.1) ∙ (sound p fits.law).begins r lit.2.real;
      }

      ready : ReadyRoute p g l r
      ready = record {
        formed = lit.2.whole.is;
        reserved = λ i n. lit.2.whole.held i (omega arith) n;
        empty = λ i j n s. lit.2.empty i n (as_occupied g l _ (j, s));
        laid = λ i q n e. subst (λ o. Suits o (g.lies (route_step p r i).block)) e (lit.2.whole.set i (omega arith) n);
      }

  -- no block of a reserved route is under a train or ahead of it
  pub reserved_clear : (r b : ℕ) → l.state r ≡ Reserved → BlockOf (layout p) r b → (j : ℕ) → There g j → UnderOrAhead p g l j b → ⊥
  reserved_clear r b was of j there h = elim h [
    | inl s ↦ reserved_formed was (rider (layout p) (world g l) a.inv b r held (as_occupied g l b (j, s))).runs.is
    | inr h ↦ reserved_formed was (ap l.state (same_holder held (ahead_held j h.0 b there h.1)) ∙ h.1.runs.formed)
  ]
    where
      held : l.holder b ≡ Some r
      held = ap l.holder (sym of.is) ∙ (if_reserved (layout p) (world g l) r was (a.inv.phase r)).1 of.at of.within

  -- a route that can be cancelled is one that the book lets be cancelled
  may_be_cancelled : (r : ℕ) → Cancellable (layout p) (world g l) r → may_cancel k r (steps_at p.routes r) ≡ Ok tt
  may_be_cancelled r c = cancel_allowed k r (steps_at p.routes r) (λ e. c.made (sym (a.states r) ∙ e)) (λ i n. (
    a.holders _ ∙ c.held i n,
    elim (cases_Bool (occupied_in k (route_step p r i).block)) [ inl e ↦ absurd (c.empty i n (as_occupied g l _ (a.real _ e))) | inr e ↦ e ],
  ))

  -- a block that is reserved for a route which cannot be cancelled has a train of that route at it or before it
  not_lost : (b r : ℕ) → l.holder b ≡ Some r → (may_cancel k r (steps_at p.routes r) ≡ Ok tt → r < length p.routes → ⊥) → ((j i : ℕ) → There g j → (o : RouteOf p g l j r) → i < route_length p r → (route_step p r i).block ≡ b → o.rear ≤ i → ⊥) → ⊥
  not_lost b r h barred none =
      let of = a.inv.own b r h in
      elim (let_goes (layout p) (world g l) a.inv r of.at of.within (ap l.holder of.is ∙ h) (a.inv.phase r)) [
        | inl c ↦ barred (may_be_cancelled r c) (is_planned p fits.law r (omega (arith, of.within)))
        | inr c ↦ none c.by of.at (numbered g c.by 0 c.on.some) (route_from c.by r c.on) of.within of.is c.before
      ]

-- an interlocking in service
module _ {S : Type 0} (L : Ghosts S) (x : Interlocking S) (l : Ledger) (service : x.unfit ≡ None) (a : Good (plan x) (L.as_ground x.trackside) l x.book) where
  -- a cancel that the book lets pass is not refused
  cancel_passes : (r : ℕ) → may_cancel x.book r (steps_at (plan x).routes r) ≡ Ok tt → r < length (plan x).routes → cancel_guard x r ≡ Ok (steps_at (plan x).routes r)
  cancel_passes r may here =
      ap (λ o. where_held (and_then (service_of o) (steps_if (slice_get (plan x).routes r) r)) (may_cancel x.book r)) service
      ∙ ap (λ o. where_held (steps_if o r) (may_cancel x.book r)) (slice_get-get_or (plan x).routes r [] here)
      ∙ ap (λ o. and_then o (Ok (steps_at (plan x).routes r))) may

  -- so none of the dangers has come about
  pub no_danger : Danger x (L.as_ground x.trackside) l → ⊥
  no_danger (two_in_a_block d) = not_two (plan x) _ l x.book _ (sheet_fits x.sheet) (L.lawful.made x.trackside) a d
  no_danger (without_route d) = not_without (plan x) _ l x.book _ (sheet_fits x.sheet) (L.lawful.made x.trackside) a d
  no_danger (unreserved_ahead d) = not_unreserved (plan x) _ l x.book _ (sheet_fits x.sheet) (L.lawful.made x.trackside) a d
  no_danger (no_way_on d) = not_wayless (plan x) _ l x.book _ (sheet_fits x.sheet) (L.lawful.made x.trackside) a d
  no_danger (false_green d) = not_green (plan x) _ l x.book _ (sheet_fits x.sheet) (L.lawful.made x.trackside) a d
  no_danger (lost_block d) =
      not_lost (plan x) _ l x.book _ (sheet_fits x.sheet) (L.lawful.made x.trackside) a d.block d.route d.reserved (λ may here. ok_err (cancel_passes d.route may here) d.refused) d.none
