-- The calls: their guards in order, and what they answer and change where the guards hold. Assumes nothing.
use Rattle.std.specs.Prelude.{ℕ, cond, List, [], ◌∷◌, ◌++◌, length, Some, None, Ok, Err, Option, Result, ◌==◌, nat_le}
use Rattle.std.specs.Borrow.{Bor}
use Rattle.std.specs.List.{slice_get}
use Rattle.network.specs.declared.route.Step.{Step}
use Rattle.network.specs.declared.sheet.Sheet.{Sheet}
use Rattle.network.specs.Judge.{Plan}
use Rattle.network.specs.Rules.{step_at}
use Rattle.network.specs.Sheets.{plan_of}
use Rattle.trackside.specs.declared.answers.Moved.{Moved}
use Rattle.trackside.specs.declared.answers.Fault.{Fault}
use Rattle.trackside.specs.declared.answers.Stuck.{Stuck}
use Rattle.trackside.specs.declared.Look.{Ghosts}
use Rattle.trackside.specs.Ground.{Ground}
use Rattle.book.specs.declared.Book.{Book}
use Rattle.book.specs.declared.refusal.Unfit.{Unfit}
use Rattle.book.specs.declared.refusal.Refusal.{Refusal}
use Rattle.book.specs.declared.refusal.Refusal.TheVariants.{OutOfService, NoRoute, NoBlock, LampAlreadyGreen, LampStayedRed, OtherYard, LineEmpty}
use Rattle.book.specs.declared.state.RouteState.TheVariants.{Formed}
use Rattle.book.specs.Refusals.{faulty}
use Rattle.book.specs.Books.{new_book, with_state}
use Rattle.book.specs.Guards.{and_then, refused_if, may_lay, may_open, may_cancel}
use Rattle.book.specs.Rules.{reserve_in, free_in, take_in, give_in}
use Rattle.interlocking.specs.declared.Interlocking.{Interlocking}
use Rattle.interlocking.specs.declared.request.Request.{Request}
use Rattle.interlocking.specs.declared.staff.Returned.{Returned}
use Rattle.interlocking.specs.declared.staff.Staff.{Staff}
use Rattle.interlocking.specs.Fitness.{unfit_for}
use Rattle.interlocking.specs.Points.{all_lie_right}

-- out of service every call is refused with the installer's number and place
abbrev pub service_of : Option Unfit → Result Unit Refusal
service_of None = Ok tt
service_of (Some u) = Err (OutOfService u)

abbrev pub steps_if : Option (List Step) → ℕ → Result (List Step) Refusal
steps_if None r = Err (NoRoute r)
steps_if (Some ss) r = Ok ss

-- the steps of route r
abbrev pub steps_for : Plan → ℕ → Result (List Step) Refusal
steps_for p r = steps_if (slice_get p.routes r) r

-- steps that are lent, as what they are
abbrev pub steps_seen : Result (Bor (List Step)) Refusal → Result (List Step) Refusal
steps_seen (Ok ss) = Ok ss.now
steps_seen (Err e) = Err e

-- the steps of a route, where a guard holds of them
abbrev pub where_held : Result (List Step) Refusal → (List Step → Result Unit Refusal) → Result (List Step) Refusal
where_held (Err e) guard = Err e
where_held (Ok ss) guard = and_then (guard ss) (Ok ss)

-- the block that a route is entered by
abbrev pub first_block : List Step → ℕ
first_block ss = (step_at ss 0).block

abbrev pub lamp_red : Ground → ℕ → Result Unit Refusal
lamp_red g b = refused_if (g.green b) (LampAlreadyGreen b)

abbrev pub opened : ℕ → Result Unit Stuck → Result ℕ Refusal
opened b (Ok u) = Ok 0
opened b (Err e) = Err (LampStayedRed b)

-- what a watch answers to what its move answered
abbrev pub watched_of : Result Moved Fault → Result Moved Refusal
watched_of (Ok m) = Ok m
watched_of (Err f) = Err (faulty f)

abbrev pub staff_of : ℕ → ℕ → Staff
staff_of y b = record { yard = y; block = b }

abbrev pub staffed : ℕ → ℕ → Result Unit Refusal × Book → Result Staff Refusal × Book
staffed y b (Ok u, k) = (Ok (staff_of y b), k)
staffed y b (Err e, k) = (Err e, k)

-- a refusal hands the same staff back
abbrev pub handed_back : Staff → Result Unit Refusal × Book → Result Unit Returned × Book
handed_back s (Ok u, k) = (Ok tt, k)
handed_back s (Err e, k) = (Err (record { refusal = e; staff = s }), k)

-- a change of the book, where the guards before it hold
abbrev pub guarded : {A : Type 0} → Result Unit Refusal → Book → Result A Refusal × Book → Result A Refusal × Book
guarded (Ok u) k next = next
guarded (Err e) k next = (Err e, k)

-- a change of the book by the steps of a route, where it has some
abbrev pub by_steps : {A : Type 0} → Result (List Step) Refusal → Book → (List Step → Result A Refusal × Book) → Result A Refusal × Book
by_steps (Err e) k change = (Err e, k)
by_steps (Ok ss) k change = change ss

module _ {S : Type 0} where
  -- an interlocking as it is made: its book is empty, and it is out of service where the trackside cannot be worked by the sheet
  abbrev pub new_interlocking : Ghosts S → S → Sheet → ℕ → Interlocking S
  new_interlocking L t sheet yard = record { trackside = t; sheet = sheet; yard = yard; book = new_book; unfit = unfit_for (L.as_ground t) (plan_of sheet).blocks }

  -- sheet, yard number and service never change
  abbrev pub became : Interlocking S → S → Book → Interlocking S
  became x t k = record { trackside = t; sheet = x.sheet; yard = x.yard; book = k; unfit = x.unfit }

  -- the trackside stays as it is
  abbrev pub on_book : {A : Type 0} → Interlocking S → A × Book → A × Interlocking S
  on_book x r = (r.0, became x x.trackside r.1)

  abbrev pub plan : Interlocking S → Plan
  plan x = plan_of x.sheet

  -- the first guards of every call on a route: in service, and there is such a route
  abbrev pub route_steps : Interlocking S → ℕ → Result (List Step) Refusal
  route_steps x r = and_then (service_of x.unfit) (steps_for (plan x) r)

  abbrev pub lay_guard : Interlocking S → ℕ → Result (List Step) Refusal
  lay_guard x r = where_held (route_steps x r) (λ ss. may_lay x.book r)

  abbrev pub form_guard : Ground → Interlocking S → ℕ → Result (List Step) Refusal
  form_guard g x r = where_held (route_steps x r) (λ ss. and_then (may_lay x.book r) (all_lie_right g ss))

  abbrev pub open_guard : Ground → Interlocking S → ℕ → Result (List Step) Refusal
  open_guard g x r = where_held (route_steps x r) (λ ss. and_then (may_open x.book r ss) (lamp_red g (first_block ss)))

  abbrev pub cancel_guard : Interlocking S → ℕ → Result (List Step) Refusal
  cancel_guard x r = where_held (route_steps x r) (λ ss. may_cancel x.book r ss)

  -- in service, and there is such a block
  abbrev pub block_guard : Interlocking S → ℕ → Result Unit Refusal
  block_guard x b = and_then (service_of x.unfit) (refused_if (nat_le (length (plan x).blocks) b) (NoBlock b))

  -- in service, and the staff is of this yard
  abbrev pub staff_guard : Interlocking S → Staff → Result Unit Refusal
  staff_guard x s = and_then (service_of x.unfit) (cond (s.yard == x.yard) (Ok tt) (Err (OtherYard s.block)))

  abbrev pub reserve_at : Interlocking S → ℕ → Result ℕ Refusal × Interlocking S
  reserve_at x r = on_book x (by_steps (route_steps x r) x.book (reserve_in x.book r))

  -- the ground is looked at, and the route is formed
  abbrev pub form_at : Ground → Interlocking S → ℕ → Result ℕ Refusal × Interlocking S
  form_at g x r = on_book x (by_steps (form_guard g x r) x.book (λ ss. (Ok 0, with_state x.book r Formed)))

  abbrev pub free_at : Interlocking S → ℕ → Result ℕ Refusal × Interlocking S
  free_at x r = on_book x (by_steps (route_steps x r) x.book (free_in x.book r))

  abbrev pub take_at : Interlocking S → ℕ → Result Staff Refusal × Interlocking S
  take_at x b = on_book x (staffed x.yard b (guarded (block_guard x b) x.book (take_in x.book b)))

  -- the possession of the staff's block is ended
  abbrev pub end_at : Interlocking S → Staff → Result Unit Refusal × Interlocking S
  end_at x s = on_book x (guarded (staff_guard x s) x.book (give_in x.book s.block))

  abbrev pub give_at : Interlocking S → Staff → Result Unit Returned × Interlocking S
  give_at x s = on_book x (handed_back s (guarded (staff_guard x s) x.book (give_in x.book s.block)))

  -- a request that was refused goes to the back of those who wait
  abbrev pub put_back : List Request → Request → Result ℕ Refusal × Interlocking S → (Result ℕ Refusal × Interlocking S) × List Request
  put_back qs q (Ok n, y) = ((Ok n, y), qs)
  put_back qs q (Err e, y) = ((Err e, y), qs ++ q ∷ [])

  -- the oldest of those who wait is reserved for
  abbrev pub serve_oldest : Interlocking S → List Request → (Result ℕ Refusal × Interlocking S) × List Request
  serve_oldest x [] = ((Err LineEmpty, x), [])
  serve_oldest x (q ∷ qs) = put_back qs q (reserve_at x q.route)

  abbrev pub serve_if : Result Unit Refusal → Interlocking S → List Request → (Result ℕ Refusal × Interlocking S) × List Request
  serve_if (Ok u) x qs = serve_oldest x qs
  serve_if (Err e) x qs = ((Err e, x), qs)

  -- out of service the line stays as it is
  abbrev pub serve_at : Interlocking S → List Request → (Result ℕ Refusal × Interlocking S) × List Request
  serve_at x qs = serve_if (service_of x.unfit) x qs
