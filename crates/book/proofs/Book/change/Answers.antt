use Rattle.std.proofs.Common.{rules}
use Rattle.book.proofs.Book.change.Goals as goal

pub returns : goal.returns
returns g c = (c.how.new.arg2, search rules, search rules)
