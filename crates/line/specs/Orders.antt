-- First come, first served: over whole histories of a line nothing is lost, doubled or overtaken. Assumes nothing.
use Rattle.std.specs.Prelude.{◌≡◌, ◌≤◌, List, [], ◌∷◌, ◌++◌, length, Some, None, Ok, Err, Option, Result}
use Rattle.line.specs.Lines.{waiting, room_of, joined_on, served}
use Rattle.line.specs.declared.Line.{Line}
use Rattle.line.specs.declared.refusal.Full.{Full}

-- one use of a line: an item that came, with the answer that it got, or what was served
pub data Use (T : Type 0) : Type 0 where
  came : T → Result Unit Full → Use T
  left : Option T → Use T

module _ {T : Type 0} where
  -- what joined the line over these uses, in the order of coming
  abbrev pub accepted : List (Use T) → List T
  accepted [] = []
  accepted (came x (Ok u) ∷ us) = x ∷ accepted us
  accepted (came x (Err e) ∷ us) = accepted us
  accepted (left o ∷ us) = accepted us

  -- what was served over these uses, in the order of serving
  abbrev pub taken : List (Use T) → List T
  taken [] = []
  taken (came x r ∷ us) = taken us
  taken (left None ∷ us) = taken us
  taken (left (Some x) ∷ us) = x ∷ taken us

  -- the line l came to be m by these uses: there is a line after each, and it is what that call's contract says
  abbrev pub Led : Line T → List (Use T) → Line T → Type 0
  Led l [] m = l ≡ m
  Led l (came x r ∷ us) m = (n : Line T) × ((r, waiting n) ≡ joined_on (room_of l) (waiting l) x) × (room_of n ≡ room_of l) × Led n us m
  Led l (left o ∷ us) m = (n : Line T) × ((o, waiting n) ≡ served (waiting l)) × (room_of n ≡ room_of l) × Led n us m

  -- From this line on, whatever is put and taken: what joined is what was served and then what still waits, in that order,
  -- and there are never more waiting than there are slots.
  abbrev pub FirstComeFirstServed : Line T → Type 0
  FirstComeFirstServed l = (us : List (Use T)) (m : Line T) → Led l us m → (accepted us ≡ taken us ++ waiting m) × (length (waiting m) ≤ room_of l)
