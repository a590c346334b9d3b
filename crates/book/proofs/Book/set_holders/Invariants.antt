use Rattle.std.proofs.Common.{◌≡◌, take}
use Rattle.book.specs.Books.{with_holders}
use Rattle.book.proofs.Book.set_holders.Given as goal

abbrev pub invariant-loop-step : goal.invariant-loop-step
invariant-loop-step l = l.self ≡ with_holders l.initial.self (take l.step-index l.steps) l.holder
