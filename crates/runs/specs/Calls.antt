-- Worked cases of calls on the book, at the junction. Assumes nothing.
use Rattle.std.specs.Prelude.{◌≡◌, ℕ, List, [], ◌∷◌, map, length, Ok, Err, codes, Result}
use Rattle.network.specs.declared.route.Step.{Step}
use Rattle.network.specs.Judge.{Plan}
use Rattle.network.specs.Rules.{steps_at}
use Rattle.reader.specs.declared.refusal.Refusal.{Refusal as Unread}
use Rattle.reader.specs.Reads.{read}
use Rattle.book.specs.declared.Book.{Book}
use Rattle.book.specs.declared.refusal.Refusal.{Refusal}
use Rattle.book.specs.Books.{new_book}
use Rattle.book.specs.Guards.{may_open}
use Rattle.book.specs.Refusals.{number_of, place_of}
use Rattle.book.specs.Rules.{reserve_in}
use Rattle.cases.specs.Sheets.{junction}

abbrev pub routes_in : Result Plan Unread → List (List Step)
routes_in (Ok p) = p.routes
routes_in (Err e) = []

-- the routes of the junction, as steps
abbrev pub junction_routes : List (List Step)
junction_routes = routes_in (read (junction (codes "plain 1.1 -") (codes "route 0 1 2")))

-- what a dispatcher asks for: a route to be reserved, or to be opened
pub data Asked : Type 0 where
  reserve_route : ℕ → Asked
  open_route : ℕ → Asked

-- what is answered: the number that an accepted call gives, or a refusal's number and place
pub data Told : Type 0 where
  accepted : ℕ → Told
  refused : ℕ → ℕ → Told

abbrev pub told_of : Result ℕ Refusal → Told
told_of (Ok n) = accepted n
told_of (Err e) = refused (number_of e) (place_of e)

-- an open that the book allows gives 0
abbrev pub told_open : Result Unit Refusal → Told
told_open (Ok u) = accepted 0
told_open (Err e) = refused (number_of e) (place_of e)

-- what one call answers by the book, and what becomes of the book
abbrev pub told_by : List (List Step) → Book → Asked → Told × Book
told_by sss k (reserve_route r) = (told_of (reserve_in k r (steps_at sss r)).0, (reserve_in k r (steps_at sss r)).1)
told_by sss k (open_route r) = (told_open (may_open k r (steps_at sss r)), k)

-- what calls answer, one after the other
abbrev pub told_in_turn : List (List Step) → Book → List Asked → List Told
told_in_turn sss k [] = []
told_in_turn sss k (c ∷ cs) = (told_by sss k c).0 ∷ told_in_turn sss (told_by sss k c).1 cs

-- calls on a new book, and what they answer
pub record Called : Type 0 where
  pub calls : List Asked
  pub answers : List Told

-- two routes that share no block are reserved together; a route that is not formed cannot be opened
abbrev pub calls : List Called
calls =
    record { calls = reserve_route 0 ∷ reserve_route 2 ∷ []; answers = accepted 3 ∷ accepted 3 ∷ [] }
    ∷ record { calls = reserve_route 0 ∷ open_route 0 ∷ []; answers = accepted 3 ∷ refused 26 0 ∷ [] }
    ∷ []

abbrev pub CallsAnswered : Type 0
CallsAnswered = map (λ (c : Called). told_in_turn junction_routes new_book c.calls) calls ≡ map (λ (c : Called). c.answers) calls

-- each call is answered as it says, and there are n of the cases
pub record CallsHold (n : ℕ) : Type 0 where
  pub told : CallsAnswered
  pub count : n ≡ length calls
