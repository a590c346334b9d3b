-- No danger comes about within a call: only a lay throws points, and none of them under a train or ahead of it.
use Rattle.std.proofs.Common.{◌≡◌, ℕ, ◌⊎◌, List, [], Ok, Err, Result, sym, refl, ap, ◌∙◌, subst, inl, inr}
use Rattle.std.proofs.lemmas.Bool.{cases_Bool, true≢false}
use Rattle.network.specs.declared.route.Step.{Step}
use Rattle.network.specs.Judge.{Plan}
use Rattle.network.specs.Rules.{steps_at}
use Rattle.trackside.specs.declared.Look.{Ghosts}
use Rattle.book.specs.declared.refusal.Refusal.{Refusal}
use Rattle.book.specs.declared.state.RouteState.TheVariants.{Reserved}
use Rattle.interlocking.specs.declared.Interlocking.{Interlocking}
use Rattle.trackside.specs.declared.answers.Moved.{Moved}
use Rattle.interlocking.specs.Points.{Act}
use Rattle.interlocking.specs.Calls.{service_of, plan, lay_guard, open_guard, cancel_guard}
use Rattle.interlocking.specs.Promises.{LaysIf, OpensIf, CancelsIf, WatchesIf, Performed, Event, Reserve, Lay, Form, Open, Watch, Cancel, Free, Take, Give, Serve}
use Rattle.interlocking.specs.Ledger.{Ledger, runs_through, after}
use Rattle.interlocking.specs.Trains.{UnderOrAhead}
use Rattle.interlocking.specs.Dangers.{AtATrain, CallDanger, throws_at_train, shifts_at_train}
use Rattle.interlocking.proofs.Track.{BlockOf}
use Rattle.interlocking.proofs.Routes.{layout}
use Rattle.interlocking.proofs.BookRows.{runs_here, runs_where}
use Rattle.interlocking.proofs.Agreement.{sheet_fits}
use Rattle.interlocking.proofs.Chains.{NoThrow, Along, threw_none, threw_along, points_stay, points_off, through_good}
use Rattle.interlocking.proofs.Steps.{InStep, laying, laid_along}
use Rattle.interlocking.proofs.AtRest.{reserved_clear}

-- a block is one of a route, or it is not
of_or_off : (p : Plan) (r b : ℕ) → BlockOf (layout p) r b ⊎ (BlockOf (layout p) r b → ⊥)
of_or_off p r b = elim (cases_Bool (runs_through (steps_at p.routes r) b)) [
  | inl e ↦ let i = runs_where (steps_at p.routes r) b e in inl (record { at = i.0; within = i.1; is = i.2 })
  | inr e ↦ inr (λ of. true≢false (sym (runs_here (steps_at p.routes r) of.at of.within) ∙ ap (runs_through (steps_at p.routes r)) of.is ∙ e))
]

-- no act, no throw
no_acts : {acts : List Act} → acts ≡ [] → NoThrow acts
no_acts e = subst NoThrow (sym e) tt

-- acts that throw nothing, or that throw along a reserved route and leave the ledger as it is
pub data Made (p : Plan) (l : Ledger) (e : Event) (acts : List Act) : Type 0 where
  throws_none : NoThrow acts → Made p l e acts
  throws_along : (r : ℕ) → l.state r ≡ Reserved → Along p r acts → after p e l ≡ l → Made p l e acts

-- one call on an interlocking that agrees with ledger and ground
module _ {S : Type 0} (L : Ghosts S) (x : Interlocking S) (l : Ledger) (a : InStep L x l) where
  -- a lay throws along a reserved route, or it is refused
  lay_made : (r : ℕ) (e : Result ℕ Refusal) (acts : List Act) (y : Interlocking S) (o : Result (List Step) Refusal) → lay_guard x r ≡ o → LaysIf L x o acts e y → Made (plan x) l (Lay r e) acts
  lay_made r e acts y (Err why) h d = throws_none (no_acts d.none)
  lay_made r e acts y (Ok ss) h d = throws_along r (laying L x l a r ss h) (laid_along L x l a r ss acts e y h d) refl

  -- an open makes no throw
  open_made : (e : Result ℕ Refusal) (acts : List Act) (y : Interlocking S) (o : Result (List Step) Refusal) → OpensIf x o acts e y → NoThrow acts
  open_made e acts y (Err why) d = no_acts d.none
  open_made e acts y (Ok ss) d = subst NoThrow (sym d.light) tt

  -- nor does a cancel
  cancel_made : (r : ℕ) (e : Result ℕ Refusal) (acts : List Act) (y : Interlocking S) (o : Result (List Step) Refusal) → CancelsIf x r o acts e y → NoThrow acts
  cancel_made r e acts y (Err why) d = no_acts d.none
  cancel_made r e acts y (Ok ss) d = subst NoThrow (sym d.light) tt

  -- nor does a watch
  watch_made : (e : Result Moved Refusal) (acts : List Act) (y : Interlocking S) (o : Result Unit Refusal) → WatchesIf x o acts e y → NoThrow acts
  watch_made e acts y (Err why) d = no_acts d.none
  watch_made e acts y (Ok u) d = subst NoThrow (sym d.move) tt

  -- what the acts of every call are
  made_by : (e : Event) (y : Interlocking S) (h : Performed L x e y) → Made (plan x) l e h.acts
  made_by (Reserve r e) y h = throws_none (no_acts h.does.none)
  made_by (Lay r e) y h = lay_made r e h.acts y (lay_guard x r) refl h.does
  made_by (Form r e) y h = throws_none (no_acts h.does.none)
  made_by (Open r e) y h = throws_none (open_made e h.acts y (open_guard (L.as_ground x.trackside) x r) h.does)
  made_by (Watch e) y h = throws_none (watch_made e h.acts y (service_of x.unfit) h.does)
  made_by (Cancel r e) y h = throws_none (cancel_made r e h.acts y (cancel_guard x r) h.does)
  made_by (Free r e) y h = throws_none (no_acts h.does.none)
  made_by (Take b e) y h = throws_none (no_acts h.does.none)
  made_by (Give s e) y h = throws_none (no_acts h.does.none)
  made_by (Serve qs e) y h = throws_none (no_acts h.does.none)

  -- while a reserved route is thrown along, no train is at its blocks
  no_train_near : (e : Event) (y : Interlocking S) (h : Performed L x e y) (r : ℕ) → l.state r ≡ Reserved → Along (plan x) r h.acts → after (plan x) e l ≡ l → (b : ℕ) → BlockOf (layout (plan x)) r b → AtATrain L x e y h l (after (plan x) e l) b → ⊥
  no_train_near e y h r was along same b of near =
      let m = near.moment in
      let good = through_good L (plan x) l x.book (sheet_fits x.sheet) r was h.acts x.trackside y.trackside h.chain.led along a m.at m.through in
      let is : m.ledger ≡ l = elim m.is [ inl f ↦ f | inr f ↦ f.0 ∙ same ] in
      reserved_clear (plan x) (L.as_ground m.at) l x.book L.most (sheet_fits x.sheet) (L.lawful.made m.at) good r b was of near.train near.there (subst (λ q. UnderOrAhead (plan x) (L.as_ground m.at) q near.train b) is near.where_it_is)

  -- so neither danger comes about by such acts
  no_danger_by : (e : Event) (y : Interlocking S) (h : Performed L x e y) → Made (plan x) l e h.acts → CallDanger L x e y h l (after (plan x) e l) → ⊥
  no_danger_by e y h (throws_none n) (throws_at_train d) = threw_none h.acts d.block n d.threw
  no_danger_by e y h (throws_none n) (shifts_at_train d) = d.shifted (points_stay L h.acts x.trackside y.trackside h.chain.led n d.block)
  no_danger_by e y h (throws_along r was along same) (throws_at_train d) = no_train_near e y h r was along same d.block (threw_along (plan x) r h.acts d.block along d.threw) d.near
  no_danger_by e y h (throws_along r was along same) (shifts_at_train d) = elim (of_or_off (plan x) r d.block) [
    | inl of ↦ no_train_near e y h r was along same d.block of d.near
    | inr off ↦ d.shifted (points_off L (plan x) r h.acts x.trackside y.trackside h.chain.led along d.block off)
  ]

  -- nor by any call
  pub no_call_danger : (e : Event) (y : Interlocking S) (h : Performed L x e y) → CallDanger L x e y h l (after (plan x) e l) → ⊥
  no_call_danger e y h = no_danger_by e y h (made_by e y h)
