-- Every call, accepted or refused, keeps book, ledger and ground in agreement.
use Rattle.std.proofs.Common.{◌≡◌, ℕ, zero, suc, ◌<◌, true, false, List, [], ◌∷◌, length, Some, None, Ok, Err, Option, Result, sym, refl, ap, ◌∙◌, subst, inl, inr, arith}
use Rattle.std.proofs.lemmas.Option.{slice_get-get_or, slice_get_past}
use Rattle.std.proofs.lemmas.Bool.{cases_lt}
use Rattle.std.specs.List.{slice_get}
use Rattle.network.specs.declared.route.Step.{Step}
use Rattle.network.specs.declared.track.Position.{Position}
use Rattle.network.specs.declared.track.Position.TheVariants.{Left, Right}
use Rattle.network.specs.Judge.{Plan}
use Rattle.network.specs.Rules.{step_at, steps_at}
use Rattle.trackside.specs.declared.answers.Lamp.{Lamp}
use Rattle.trackside.specs.declared.answers.Moved.{Moved}
use Rattle.trackside.specs.declared.answers.Stuck.{Stuck}
use Rattle.trackside.specs.declared.Look.{Ghosts}
use Rattle.trackside.specs.Ground.{Ground}
use Rattle.book.specs.declared.Book.{Book}
use Rattle.book.specs.declared.refusal.Refusal.{Refusal}
use Rattle.book.specs.declared.state.RouteState.TheVariants.{Free as FreeState, Reserved, Formed}
use Rattle.book.specs.Books.{with_state, with_possession}
use Rattle.book.specs.Guards.{and_then, may_reserve, may_lay, may_open, may_cancel, may_free, may_take, may_give}
use Rattle.book.specs.Rules.{decided, reserve_in, reserved_book, cancelled_book, free_in, noted_if}
use Rattle.book.proofs.Guarded.{ok_err, both_hold, may_lay_gives}
use Rattle.interlocking.specs.declared.Interlocking.{Interlocking}
use Rattle.interlocking.specs.declared.request.Request.{Request}
use Rattle.interlocking.specs.declared.staff.Staff.{Staff}
use Rattle.interlocking.specs.Points.{Act, Light, Led, wrong_if, right_if, wrong_at, all_lie_right}
use Rattle.interlocking.specs.Calls.{service_of, steps_if, where_held, lamp_red, first_block, staffed, handed_back, guarded, by_steps, became, on_book, plan, route_steps, lay_guard, form_guard, open_guard, cancel_guard, block_guard, staff_guard, reserve_at, put_back, serve_if}
use Rattle.interlocking.specs.Promises.{Refuses, LaysIf, OpensIf, CancelsIf, WatchesIf, Settled, Performed, Event, Reserve, Lay, Form, Open, Watch, Cancel, Free, Take, Give, Serve}
use Rattle.interlocking.specs.Ledger.{Ledger, with_cancelled, after}
use Rattle.interlocking.proofs.Track.{Suits}
use Rattle.interlocking.proofs.Agreement.{Fits, sheet_fits, Good, reserve_good, form_good, free_good, possession_good}
use Rattle.interlocking.proofs.GroundSteps.{open_good, cancel_good, watch_good}
use Rattle.interlocking.proofs.Chains.{Along, lays_along, along_good}

-- r is a route of the plan, and these are its steps
pub record Planned (p : Plan) (r : ℕ) (ss : List Step) : Type 0 where
  pub here : r < length p.routes
  pub is : steps_at p.routes r ≡ ss

-- steps that are found are those of a route
found_steps : (p : Plan) (r : ℕ) (ss : List Step) (o : Option (List Step)) → slice_get p.routes r ≡ o → steps_if o r ≡ Ok ss → Planned p r ss
found_steps p r ss None e h = absurd (ok_err h refl)
found_steps p r ss (Some xs) e h = elim (cases_lt r (length p.routes)) [
  | inl l ↦ let f = slice_get-get_or p.routes r [] l in record { here = l; is = cc }
  | inr l ↦ let f = slice_get_past p.routes r l in absurd (cc)
]

-- steps of which a guard holds
where_both : (o : Result (List Step) Refusal) (guard : List Step → Result Unit Refusal) (ss : List Step) → where_held o guard ≡ Ok ss → (o ≡ Ok ss) × (guard ss ≡ Ok tt)
where_both (Err e) guard ss h = absurd (ok_err h refl)
where_both (Ok xs) guard ss h =
    let b = both_hold (guard xs) (Ok xs) ss h in
    let e : xs ≡ ss = cc in
    (b.1, ap guard (sym e) ∙ b.0)

-- a point that does not lie wrong suits its step
suits_if : (n : Option Position) (q : Position) (b : ℕ) → right_if (wrong_if n q) b ≡ Ok tt → Suits n q
suits_if None q b h = tt
suits_if (Some Left) Left b h = refl
suits_if (Some Left) Right b h = absurd (ok_err h refl)
suits_if (Some Right) Left b h = absurd (ok_err h refl)
suits_if (Some Right) Right b h = refl

-- points that all lie right suit their steps
all_suit : (g : Ground) (ss : List Step) → all_lie_right g ss ≡ Ok tt → (i : ℕ) → i < length ss → Suits (step_at ss i).needs (g.lies (step_at ss i).block)
all_suit g [] h i l = absurd (omega arith)
all_suit g (s ∷ ss) h zero l = suits_if s.needs (g.lies s.block) s.block (both_hold (right_if (wrong_at g s) s.block) (all_lie_right g ss) tt h).0
all_suit g (s ∷ ss) h (suc i) l = all_suit g ss (both_hold (right_if (wrong_at g s) s.block) (all_lie_right g ss) tt h).1 i (omega arith)

-- the calls that change the book alone
module _ (p : Plan) (g : Ground) (l : Ledger) (k : Book) (fits : Fits p) (a : Good p g l k) where
  -- an answer and the book that goes with it agree with what the call makes of the ledger
  abbrev AgreesBy : {A : Type 0} → (A → Ledger) → A × Book → Type 0
  AgreesBy f q = Good p g (f q.0) q.1

  -- those on route r
  module _ (r : ℕ) where
    -- a reserve, whose guards hold or not
    reserve_decided : r < length p.routes → (o : Result Unit Refusal) → may_reserve k r (steps_at p.routes r) ≡ o → AgreesBy (λ e. after p (Reserve r e) l) (decided o k (length (steps_at p.routes r)) (reserved_book k r (steps_at p.routes r)))
    reserve_decided here (Ok u) e = reserve_good p g l k fits a r here e
    reserve_decided here (Err x) e = a

    -- of the steps that are found, if any
    reserve_by : (o : Result (List Step) Refusal) → ((ss : List Step) → o ≡ Ok ss → Planned p r ss) → AgreesBy (λ e. after p (Reserve r e) l) (by_steps o k (reserve_in k r))
    reserve_by (Err e) f = a
    reserve_by (Ok ss) f = subst (λ xs. AgreesBy (λ e. after p (Reserve r e) l) (reserve_in k r xs)) (f ss refl).is (reserve_decided (f ss refl).here _ refl)

    -- a free, whose guards hold or not
    free_decided : r < length p.routes → (o : Result Unit Refusal) → may_free k r (steps_at p.routes r) ≡ o → AgreesBy (λ e. after p (Free r e) l) (decided o k 0 (with_state k r FreeState))
    free_decided here (Ok u) e = free_good p g l k fits a r here e
    free_decided here (Err x) e = a

    -- of the steps that are found, if any
    free_by : (o : Result (List Step) Refusal) → ((ss : List Step) → o ≡ Ok ss → Planned p r ss) → AgreesBy (λ e. after p (Free r e) l) (by_steps o k (free_in k r))
    free_by (Err e) f = a
    free_by (Ok ss) f = subst (λ xs. AgreesBy (λ e. after p (Free r e) l) (free_in k r xs)) (f ss refl).is (free_decided (f ss refl).here _ refl)

    -- a form
    form_by : (o : Result (List Step) Refusal) → ((ss : List Step) → o ≡ Ok ss → Planned p r ss × (may_lay k r ≡ Ok tt) × (all_lie_right g ss ≡ Ok tt)) → AgreesBy (λ e. after p (Form r e) l) (by_steps {A = ℕ} o k (λ ss. (Ok 0, with_state k r Formed)))
    form_by (Err e) f = a
    form_by (Ok ss) f =
        let h = f ss refl in
        form_good p g l k fits a r h.0.here (may_lay_gives k r h.1) (all_suit g (steps_at p.routes r) (ap (all_lie_right g) h.0.is ∙ h.2))

  -- a possession taken, if the guards hold
  take_decided : (b : ℕ) (o : Result Unit Refusal) → Good p g l (decided o k (tt {0}) (with_possession k b true)).1
  take_decided b (Ok u) = possession_good p g l k fits a b true
  take_decided b (Err e) = a

  -- a possession given back, if the guards hold
  give_decided : (b : ℕ) (o : Result Unit Refusal) → Good p g l (decided o k (tt {0}) (with_possession k b false)).1
  give_decided b (Ok u) = possession_good p g l k fits a b false
  give_decided b (Err e) = a

  -- what is barred by an earlier guard leaves the book
  guarded_good : (o : Result Unit Refusal) (q : Result Unit Refusal × Book) → Good p g l q.1 → Good p g l (guarded o k q).1
  guarded_good (Ok u) q h = h
  guarded_good (Err e) q h = a

  -- the staff that is handed out leaves the book as it is
  staffed_good : (y b : ℕ) (q : Result Unit Refusal × Book) → Good p g l q.1 → Good p g l (staffed y b q).1
  staffed_good y b (Ok u, k') h = h
  staffed_good y b (Err e, k') h = h

  -- so does the staff that is handed back
  handed_good : (s : Staff) (q : Result Unit Refusal × Book) → Good p g l q.1 → Good p g l (handed_back s q).1
  handed_good s (Ok u, k') h = h
  handed_good s (Err e, k') h = h

module _ {S : Type 0} (L : Ghosts S) where
  -- the interlocking x agrees with the ledger l and with its ground
  abbrev pub InStep : Interlocking S → Ledger → Type 0
  InStep x l = Good (plan x) (L.as_ground x.trackside) l x.book

  -- a call has led from x to y, which agrees with the ledger l and is otherwise as x was
  pub record LeadsTo (x : Interlocking S) (l : Ledger) (y : Interlocking S) : Type 0 where
    pub book : Book
    pub rest : y ≡ became x y.trackside book
    pub good : Good (plan x) (L.as_ground y.trackside) l book

  -- one call on x
  module _ (x : Interlocking S) (l : Ledger) (a : InStep x l) where
    -- its plan
    abbrev p : Plan
    p = plan x

    -- its ground
    abbrev g : Ground
    g = L.as_ground x.trackside

    -- its sheet is accepted, and fits the book
    fits : Fits p
    fits = sheet_fits x.sheet

    -- nothing changes
    unchanged : LeadsTo x l x
    unchanged = record { book = x.book; rest = refl; good = a }

    -- the steps of a call are those of a route
    planned : (r : ℕ) (ss : List Step) → route_steps x r ≡ Ok ss → Planned p r ss
    planned r ss h = found_steps p r ss _ refl (both_hold (service_of x.unfit) _ ss h).1

    -- and a guard holds of them
    pub planned_where : (r : ℕ) (guard : List Step → Result Unit Refusal) (ss : List Step) → where_held (route_steps x r) guard ≡ Ok ss → Planned p r ss × (guard (steps_at p.routes r) ≡ Ok tt)
    planned_where r guard ss h =
        let b = where_both (route_steps x r) guard ss h in
        let m = planned r ss b.0 in
        (m, ap guard m.is ∙ b.1)

    -- a call that asks nothing of the trackside
    settled : {A : Type 0} (f : A → Ledger) (q : A × Book) (acts : List Act) (e : A) (y : Interlocking S) → Good p g (f q.0) q.1 → Settled (on_book x q) acts e y → LeadsTo x (f e) y
    settled f q acts e y h s = subst (λ z. LeadsTo x (f z.0) z.1) (sym s.is) (record { book = q.1; rest = refl; good = h })

    -- a reserve
    reserve_leads : (r : ℕ) → LeadsTo x (after p (Reserve r (reserve_at x r).0) l) (reserve_at x r).1
    reserve_leads r = record { book = _; rest = refl; good = reserve_by p g l x.book fits a r (route_steps x r) (planned r) }

    -- the oldest request is reserved for, or goes back to the line
    serve_put : (q : Request) (qs : List Request) (z : Result ℕ Refusal × Interlocking S) → LeadsTo x (after p (Reserve q.route z.0) l) z.1 → LeadsTo x (after p (Serve (q ∷ qs) (put_back qs q z).0.0) l) (put_back qs q z).0.1
    serve_put q qs (Ok n, y) h = h
    serve_put q qs (Err e, y) h = h

    -- a serve
    serve_leads : (o : Result Unit Refusal) (qs : List Request) → LeadsTo x (after p (Serve qs (serve_if o x qs).0.0) l) (serve_if o x qs).0.1
    serve_leads (Ok u) [] = unchanged
    serve_leads (Ok u) (q ∷ qs) = serve_put q qs (reserve_at x q.route) (reserve_leads q.route)
    serve_leads (Err e) [] = unchanged
    serve_leads (Err e) (q ∷ qs) = unchanged

    -- a refused call
    refused : {A : Type 0} (e : Refusal) (acts : List Act) (o : Result A Refusal) (y : Interlocking S) → Refuses x e acts o y → LeadsTo x l y
    refused e acts o y h = subst (LeadsTo x l) (sym h.same) unchanged

    -- a route that is laid is reserved
    pub laying : (r : ℕ) (ss : List Step) → lay_guard x r ≡ Ok ss → l.state r ≡ Reserved
    laying r ss h = sym (a.states r) ∙ may_lay_gives x.book r (planned_where r (λ xs. may_lay x.book r) ss h).1

    -- and its acts are throws along that route
    pub laid_along : (r : ℕ) (ss : List Step) (acts : List Act) (e : Result ℕ Refusal) (y : Interlocking S) → lay_guard x r ≡ Ok ss → LaysIf L x (Ok ss) acts e y → Along p r acts
    laid_along r ss acts e y h d =
        let m = (planned_where r (λ xs. may_lay x.book r) ss h).0 in
        lays_along L p r d.lays (λ i n. record { at = i; within = subst (λ xs. i < length xs) (sym m.is) n; is = ap (λ xs. (step_at xs i).block) m.is })

    -- so a lay keeps the agreement
    lay_leads : (r : ℕ) (e : Result ℕ Refusal) (acts : List Act) (y : Interlocking S) → Led L x.trackside acts y.trackside → (o : Result (List Step) Refusal) → lay_guard x r ≡ o → LaysIf L x o acts e y → LeadsTo x l y
    lay_leads r e acts y c (Err why) h d = refused why acts e y d
    lay_leads r e acts y c (Ok ss) h d = record { book = x.book; rest = d.rest; good = along_good L p l x.book fits r (laying r ss h) acts x.trackside y.trackside c (laid_along r ss acts e y h d) a }

    -- one light alone was made
    light_made : (acts : List Act) (b : ℕ) (c : Lamp) (o : Result Unit Stuck) (y : S) → Led L x.trackside acts y → acts ≡ Light b c o ∷ [] → L.lights x.trackside b c o y
    light_made acts b c o y m e =
        let n = subst (λ cs. Led L x.trackside cs y) e m in
        subst (L.lights x.trackside b c o) n.2 n.1

    -- an open
    open_leads : (r : ℕ) (e : Result ℕ Refusal) (acts : List Act) (y : Interlocking S) → Led L x.trackside acts y.trackside → (o : Result (List Step) Refusal) → open_guard g x r ≡ o → OpensIf x o acts e y → LeadsTo x l y
    open_leads r e acts y c (Err why) h d = refused why acts e y d
    open_leads r e acts y c (Ok ss) h d =
        let m = planned_where r (λ xs. and_then (may_open x.book r xs) (lamp_red g (first_block xs))) ss h in
        let lit = L.lawful.lighting _ _ _ _ _ (light_made acts _ _ _ y.trackside c d.light) in
        record {
          book = x.book;
          rest = d.rest;
          good = open_good p g (L.as_ground y.trackside) l x.book fits a r d.told m.0.here (both_hold (may_open x.book r (steps_at p.routes r)) _ tt m.1).0 (rw m.0.is lit);
        }

    -- a cancel
    cancel_leads : (r : ℕ) (e : Result ℕ Refusal) (acts : List Act) (y : Interlocking S) → Led L x.trackside acts y.trackside → (o : Result (List Step) Refusal) → cancel_guard x r ≡ o → CancelsIf x r o acts e y → LeadsTo x (after p (Cancel r e) l) y
    cancel_leads r e acts y c (Err why) h d = subst (λ o. LeadsTo x (after p (Cancel r o) l) y) (sym d.answer) (refused why acts e y d)
    cancel_leads r e acts y c (Ok ss) h d =
        let m = planned_where r (λ xs. may_cancel x.book r xs) ss h in
        let lit = L.lawful.lighting _ _ _ _ _ (light_made acts _ _ _ y.trackside c d.light) in
        subst (λ o. LeadsTo x (after p (Cancel r o) l) y) (sym d.answer) (record {
          book = cancelled_book x.book r ss;
          rest = d.rest;
          good = subst (λ xs. Good p (L.as_ground y.trackside) (with_cancelled p r l) (cancelled_book x.book r xs)) m.0.is (cancel_good p g (L.as_ground y.trackside) l x.book fits a r d.told m.0.here m.1 (rw m.0.is lit));
        })

    -- a watch
    watch_leads : (e : Result Moved Refusal) (acts : List Act) (y : Interlocking S) → Led L x.trackside acts y.trackside → (o : Result Unit Refusal) → WatchesIf x o acts e y → LeadsTo x (after p (Watch e) l) y
    watch_leads e acts y c (Err why) d = subst (λ o. LeadsTo x (after p (Watch o) l) y) (sym d.answer) (refused why acts e y d)
    watch_leads e acts y c (Ok u) d =
        let n = subst (λ cs. Led L x.trackside cs y.trackside) d.move c in
        let t = subst (L.moves x.trackside d.moved) n.2 n.1 in
        subst (λ o. LeadsTo x (after p (Watch o) l) y) (sym d.answer) (record {
          book = noted_if x.book d.moved;
          rest = d.rest;
          good = watch_good p g (L.as_ground y.trackside) l x.book fits a L.most d.moved (L.lawful.made x.trackside) (L.lawful.made y.trackside) (L.lawful.moving _ _ _ t);
        })

    -- every call
    pub called_leads : (e : Event) (y : Interlocking S) → Performed L x e y → LeadsTo x (after p e l) y
    called_leads (Reserve r e) y h = settled (λ o. after p (Reserve r o) l) _ h.acts e y (reserve_by p g l x.book fits a r (route_steps x r) (planned r)) h.does
    called_leads (Lay r e) y h = lay_leads r e h.acts y h.chain.led _ refl h.does
    called_leads (Form r e) y h = settled (λ o. after p (Form r o) l) _ h.acts e y (form_by p g l x.book fits a r (form_guard g x r) formed) h.does
      where
        formed : (ss : List Step) → form_guard g x r ≡ Ok ss → Planned p r ss × (may_lay x.book r ≡ Ok tt) × (all_lie_right g ss ≡ Ok tt)
        formed ss f =
            let m = planned_where r (λ xs. and_then (may_lay x.book r) (all_lie_right g xs)) ss f in
            let b = both_hold (may_lay x.book r) _ tt m.1 in
            (m.0, b.0, ap (all_lie_right g) (sym m.0.is) ∙ b.1)
    called_leads (Open r e) y h = open_leads r e h.acts y h.chain.led _ refl h.does
    called_leads (Watch e) y h = watch_leads e h.acts y h.chain.led _ h.does
    called_leads (Cancel r e) y h = cancel_leads r e h.acts y h.chain.led _ refl h.does
    called_leads (Free r e) y h = settled (λ o. after p (Free r o) l) _ h.acts e y (free_by p g l x.book fits a r (route_steps x r) (planned r)) h.does
    called_leads (Take b e) y h = settled (λ o. l) _ h.acts e y (staffed_good p g l x.book fits a x.yard b _ (guarded_good p g l x.book fits a (block_guard x b) _ (take_decided p g l x.book fits a b (may_take x.book b)))) h.does
    called_leads (Give s e) y h = settled (λ o. l) _ h.acts e y (handed_good p g l x.book fits a s _ (guarded_good p g l x.book fits a (staff_guard x s) _ (give_decided p g l x.book fits a s.block (may_give x.book s.block)))) h.does
    called_leads (Serve qs e) y h = subst (λ z. LeadsTo x (after p (Serve qs z.0.0) l) z.0.1) (sym h.does.is) (serve_leads (service_of x.unfit) qs)
