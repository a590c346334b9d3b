-- What each call answers, and what becomes of the book: a refusal leaves it as it was. Assumes nothing.
use Rattle.std.specs.Prelude.{ℕ, true, false, List, length, Some, None, Ok, Err, Result}
use Rattle.network.specs.declared.route.Step.{Step}
use Rattle.trackside.specs.declared.answers.Fault.{Fault}
use Rattle.trackside.specs.declared.answers.Moved.{Moved}
use Rattle.trackside.specs.declared.answers.Moved.TheVariants.{Quiet, Enter, Forward, Clear}
use Rattle.book.specs.declared.Book.{Book}
use Rattle.book.specs.declared.state.RouteState.TheVariants.{Free, Reserved}
use Rattle.book.specs.declared.refusal.Refusal.{Refusal}
use Rattle.book.specs.Books.{with_state, with_holders, with_possession, with_occupied, with_cleared, counted}
use Rattle.book.specs.Guards.{may_reserve, may_free, may_take, may_give}

-- where the guards hold, this answer and this book; else the refusal, and the book as it was
abbrev pub decided : {A : Type 0} → Result Unit Refusal → Book → A → Book → Result A Refusal × Book
decided (Ok u) k a next = (Ok a, next)
decided (Err e) k a next = (Err e, k)

-- all blocks become reserved for r; the answer is their number
abbrev pub reserved_book : Book → ℕ → List Step → Book
reserved_book k r ss = counted (with_state (with_holders k ss (Some r)) r Reserved)

abbrev pub reserve_in : Book → ℕ → List Step → Result ℕ Refusal × Book
reserve_in k r ss = decided (may_reserve k r ss) k (length ss) (reserved_book k r ss)

-- all blocks and the route become free
abbrev pub cancelled_book : Book → ℕ → List Step → Book
cancelled_book k r ss = with_state (with_holders k ss None) r Free

abbrev pub free_in : Book → ℕ → List Step → Result ℕ Refusal × Book
free_in k r ss = decided (may_free k r ss) k 0 (with_state k r Free)

abbrev pub take_in : Book → ℕ → Result Unit Refusal × Book
take_in k b = decided (may_take k b) k tt (with_possession k b true)

abbrev pub give_in : Book → ℕ → Result Unit Refusal × Book
give_in k b = decided (may_give k b) k tt (with_possession k b false)

-- a block that was reached is occupied; a block that was cleared is unoccupied and free
abbrev pub noted : Book → Moved → Book
noted k Quiet = k
noted k (Enter t b) = with_occupied k b
noted k (Forward t b) = with_occupied k b
noted k (Clear t b) = with_cleared k b

-- a fault changes nothing
abbrev pub noted_if : Book → Result Moved Fault → Book
noted_if k (Ok m) = noted k m
noted_if k (Err f) = k
