-- An interlocking that is made in service is never in danger.
use Rattle.std.proofs.Common.{◌≡◌, List, [], ◌∷◌, None, sym, subst}
use Rattle.trackside.specs.declared.Look.{Ghosts}
use Rattle.book.specs.Books.{new_book}
use Rattle.interlocking.specs.declared.Interlocking.{Interlocking}
use Rattle.interlocking.specs.Fitness.{unfit_for}
use Rattle.interlocking.specs.Calls.{plan}
use Rattle.interlocking.specs.Promises.{Event}
use Rattle.interlocking.specs.Ledger.{all_free, ledger}
use Rattle.interlocking.specs.History.{History, begun, called, idled}
use Rattle.interlocking.specs.Safety.{NeverInDanger}
use Rattle.interlocking.proofs.Agreement.{Good}
use Rattle.interlocking.proofs.Beginning.{made_good}
use Rattle.interlocking.proofs.Steps.{InStep, called_leads}
use Rattle.interlocking.proofs.AtRest.{no_danger}
use Rattle.interlocking.proofs.InCalls.{no_call_danger}

module _ {S : Type 0} (L : Ghosts S) where
  -- in service, and in agreement with the ledger of its calls and with its ground
  record RunsWell (es : List Event) (x : Interlocking S) : Type 0 where
    service : x.unfit ≡ None
    agrees : InStep L x (ledger (plan x) es)

  -- it starts so, and stays so through every history
  stays_well : (start : Interlocking S) → RunsWell [] start → {es : List Event} {y : Interlocking S} → History L start es y → RunsWell es y
  stays_well start w begun = w
  stays_well start w (called {es} {x} {y} h e m) =
      let v = stays_well start w h in
      let c = called_leads L x (ledger (plan x) es) v.agrees e y m in
      subst (RunsWell (e ∷ es)) (sym c.rest) (record { service = v.service; agrees = c.good })
  stays_well start w (idled {es} {x} {y} h i) =
      let v = stays_well start w h in
      subst (RunsWell es) (sym i.rest) (record { service = v.service; agrees = subst (λ g. Good (plan x) g (ledger (plan x) es) x.book) (sym i.same_ground) v.agrees })

  -- made with a new book, on a trackside that is found fit, and in service
  pub never_in_danger : (x : Interlocking S) → x.book ≡ new_book → unfit_for (L.as_ground x.trackside) (plan x).blocks ≡ None → x.unfit ≡ None → NeverInDanger L x
  never_in_danger x new fit service = record {
    at_rest = λ es y h. let v = stays_well x start h in no_danger L y (ledger (plan y) es) v.service v.agrees;
    in_calls = λ es y h. let v = stays_well x start h in no_call_danger L y (ledger (plan y) es) v.agrees;
  }
    where
      start : RunsWell [] x
      start = record { service = service; agrees = subst (Good (plan x) (L.as_ground x.trackside) all_free) (sym new) (made_good L.most (plan x) (L.as_ground x.trackside) (L.lawful.made x.trackside) fit) }
