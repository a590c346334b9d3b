-- A line as the list of those who wait, and what each call makes of it. Assumes nothing.
use Rattle.std.specs.Prelude.{ℕ, ◌+◌, cond, List, [], ◌∷◌, ◌++◌, length, Some, None, Ok, Err, Option, Result, nat_lt, slice_set}
use Rattle.line.specs.Rings.{in_ring, back_of, front_of}
use Rattle.line.specs.declared.Line.{Line}
use Rattle.line.specs.declared.refusal.Full.{Full}
use Rattle.line.specs.declared.refusal.Full.TheVariants.{NoRoom}

module _ {T : Type 0} where
  -- those who wait, oldest first
  abbrev pub waiting : Line T → List T
  waiting l = in_ring l.slots.now l.first l.count

  -- how many can wait
  abbrev pub room_of : Line T → ℕ
  room_of l = length l.slots.now

  -- an item comes to a line of k places where w wait: the answer, and who waits then
  abbrev pub joined_on : ℕ → List T → T → Result Unit Full × List T
  joined_on k w x = cond (nat_lt (length w) k) (Ok tt, w ++ x ∷ []) (Err NoRoom, w)

  -- the oldest is served: who that is, and who waits then
  abbrev pub served : List T → Option T × List T
  served [] = (None, [])
  served (x ∷ xs) = (Some x, xs)

  -- what the slots hold once x was put: x behind the last who waits, and all else as before
  abbrev pub slots_after_put : Line T → T → List T
  slots_after_put l x = cond (nat_lt (length (waiting l)) (room_of l)) (slice_set l.slots.now (back_of (room_of l) l.first (length (waiting l))) x) l.slots.now

  -- where those who wait begin once the oldest was served
  abbrev pub first_after_take : Line T → ℕ
  first_after_take l = cond (nat_lt 0 (length (waiting l))) (front_of (room_of l) l.first + 1) l.first
