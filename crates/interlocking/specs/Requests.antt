-- Requests that join their line and are served. Assumes nothing.
use Rattle.std.specs.Prelude.{ℕ, ◌<◌, Bool, true, false, cond, List, [], ◌∷◌, length, Ok, Err, Result, nat_lt, slice_set}
use Rattle.line.specs.declared.Line.{Line}
use Rattle.line.specs.declared.refusal.Full.{Full}
use Rattle.line.specs.Lines.{waiting, room_of, joined_on, slots_after_put, first_after_take}
use Rattle.line.specs.Rings.{back_of}
use Rattle.book.specs.declared.refusal.Refusal.{Refusal}
use Rattle.book.specs.declared.refusal.Refusal.TheVariants.{UnknownPanel}
use Rattle.book.specs.Refusals.{line_full}
use Rattle.interlocking.specs.declared.Interlocking.{Interlocking}
use Rattle.interlocking.specs.declared.request.Request.{Request}
use Rattle.interlocking.specs.Calls.{service_of, reserve_at}

abbrev pub request_of : ℕ → ℕ → Request
request_of panel route = record { panel = panel; route = route }

abbrev pub refused_full : Result Unit Full × List Request → Result Unit Refusal × List Request
refused_full (Ok u, qs) = (Ok tt, qs)
refused_full (Err f, qs) = (Err (line_full f), qs)

-- panels are numbered from 0 to 3; a request of one of them joins the line where there is room
abbrev pub requested : ℕ → List Request → ℕ → ℕ → Result Unit Refusal × List Request
requested room qs panel route = cond (nat_lt 3 panel) (Err UnknownPanel, qs) (refused_full (joined_on room qs (request_of panel route)))

abbrev pub slots_after_request : Line Request → ℕ → ℕ → List Request
slots_after_request l panel route = cond (nat_lt 3 panel) l.slots.now (slots_after_put l (request_of panel route))

abbrev pub HasSpace : Bool → Line Request → Type 0
HasSpace true l = length (waiting l) < room_of l
HasSpace false l = Unit {0}

-- what the slots hold with one more behind the last who waits
abbrev pub slots_with_last : Line Request → Request → List Request
slots_with_last l q = slice_set l.slots.now (back_of (room_of l) l.first (length (waiting l))) q

-- what the slots hold once the oldest went to the back: the place behind the others, of whom there is one fewer than waited
abbrev pub slots_moved : Line Request → Request → ℕ → List Request
slots_moved l q others = slice_set l.slots.now (back_of (room_of l) (first_after_take l) others) q

abbrev pub slots_by : Result ℕ Refusal → Line Request → Request → ℕ → List Request
slots_by (Ok n) l q others = l.slots.now
slots_by (Err e) l q others = slots_moved l q others

abbrev pub first_if : Result Unit Refusal → Line Request → ℕ
first_if (Err e) l = l.first
first_if (Ok u) l = first_after_take l

module _ {S : Type 0} where
  abbrev pub slots_served : Interlocking S → Line Request → List Request → List Request
  slots_served x l [] = l.slots.now
  slots_served x l (q ∷ qs) = slots_by (reserve_at x q.route).0 l q (length qs)

  abbrev pub slots_if : Result Unit Refusal → Interlocking S → Line Request → List Request
  slots_if (Err e) x l = l.slots.now
  slots_if (Ok u) x l = slots_served x l (waiting l)

  -- what the slots hold after a serve: only a request that was refused in service is written again, at the back
  abbrev pub slots_after_serve : Interlocking S → Line Request → List Request
  slots_after_serve x l = slots_if (service_of x.unfit) x l

  -- where those who wait begin after a serve
  abbrev pub first_after_serve : Interlocking S → Line Request → ℕ
  first_after_serve x l = first_if (service_of x.unfit) l
