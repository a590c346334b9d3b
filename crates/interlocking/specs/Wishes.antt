-- A wish that joins the line of a make. Assumes nothing.
use Rattle.std.specs.Prelude.{◌≡◌, Ok, Err, Result}
use Rattle.line.specs.declared.refusal.Full.{Full}
use Rattle.trackside.specs.declared.Look.{Ghosts}
use Rattle.book.specs.declared.refusal.Refusal.{Refusal}
use Rattle.book.specs.Refusals.{line_full}
use Rattle.interlocking.specs.declared.Interlocking.{Interlocking}
use Rattle.interlocking.specs.Calls.{became, service_of}

abbrev pub joined_answer : Result Unit Full → Result Unit Refusal
joined_answer (Ok u) = Ok tt
joined_answer (Err f) = Err (line_full f)

module _ {S W : Type 0} (L : Ghosts S) (joins : S → W → Result Unit Full → S → Type 0) where
  -- out of service nothing below is called
  pub record TurnedDown (x : Interlocking S) (e : Refusal) (a : Result Unit Refusal) (y : Interlocking S) : Type 0 where
    pub answer : a ≡ Err e
    pub same : y ≡ x

  -- the make takes the wish or has no room for it; ground and book stay
  pub record PassedOn (x : Interlocking S) (w : W) (a : Result Unit Refusal) (y : Interlocking S) : Type 0 where
    pub told : Result Unit Full
    pub joined : joins x.trackside w told y.trackside
    pub answer : a ≡ joined_answer told
    pub same_ground : L.as_ground y.trackside ≡ L.as_ground x.trackside
    pub rest : y ≡ became x y.trackside x.book

  abbrev pub JoinsIf : Result Unit Refusal → Interlocking S → W → Result Unit Refusal → Interlocking S → Type 0
  JoinsIf (Err e) x w a y = TurnedDown x e a y
  JoinsIf (Ok u) x w a y = PassedOn x w a y

  abbrev pub WishJoins : Interlocking S → W → Result Unit Refusal → Interlocking S → Type 0
  WishJoins x w a y = JoinsIf (service_of x.unfit) x w a y
