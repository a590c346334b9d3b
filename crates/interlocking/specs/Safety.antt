-- The safety promise. Assumes nothing.
use Rattle.std.specs.Prelude.{List, ◌∷◌}
use Rattle.trackside.specs.declared.Look.{Ghosts}
use Rattle.interlocking.specs.declared.Interlocking.{Interlocking}
use Rattle.interlocking.specs.Calls.{plan}
use Rattle.interlocking.specs.Promises.{Event, Performed}
use Rattle.interlocking.specs.Ledger.{ledger}
use Rattle.interlocking.specs.History.{History}
use Rattle.interlocking.specs.Dangers.{Danger, CallDanger}

-- After the making, after every call of every list of calls, and within every call, no danger has come about.
pub record NeverInDanger {S : Type 0} (L : Ghosts S) (start : Interlocking S) : Type 0 where
  pub at_rest : (es : List Event) (x : Interlocking S) → History L start es x → Danger x (L.as_ground x.trackside) (ledger (plan x) es) → ⊥
  pub in_calls : (es : List Event) (x : Interlocking S) → History L start es x → (e : Event) (y : Interlocking S) (h : Performed L x e y) → CallDanger L x e y h (ledger (plan x) es) (ledger (plan x) (e ∷ es)) → ⊥
