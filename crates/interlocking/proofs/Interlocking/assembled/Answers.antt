use Rattle.std.proofs.Common.{sym, ◌∙◌, rules}
use Rattle.interlocking.proofs.Safe.{never_in_danger}
use Rattle.interlocking.proofs.Interlocking.assembled.Goals as goal

pub returns : goal.returns
returns g c = record { made = search rules; safe = λ fit none. never_in_danger g.T.Look _ c.new.ensures (sym fit ∙ none) none }
