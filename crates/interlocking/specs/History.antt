-- Histories: the calls on an interlocking, one after the other, accepted or refused. Assumes nothing.
use Rattle.std.specs.Prelude.{◌≡◌, List, [], ◌∷◌}
use Rattle.trackside.specs.declared.Look.{Ghosts}
use Rattle.interlocking.specs.declared.Interlocking.{Interlocking}
use Rattle.interlocking.specs.Calls.{became}
use Rattle.interlocking.specs.Promises.{Event, Performed}

module _ {S : Type 0} (L : Ghosts S) where
  -- between two calls the trackside may become any other that has the same ground; the interlocking stays as it is
  pub record Idles (x y : Interlocking S) : Type 0 where
    pub same_ground : L.as_ground y.trackside ≡ L.as_ground x.trackside
    pub rest : y ≡ became x y.trackside x.book

  -- from the interlocking `start`, these calls, the newest first, have led to the one that follows
  pub data History (start : Interlocking S) : List Event → Interlocking S → Type 0 where
    begun : History start [] start
    called : {es : List Event} {x y : Interlocking S} → History start es x → (e : Event) → Performed L x e y → History start (e ∷ es) y
    idled : {es : List Event} {x y : Interlocking S} → History start es x → Idles x y → History start es y
