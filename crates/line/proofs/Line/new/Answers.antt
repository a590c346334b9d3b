use Rattle.std.proofs.Common.{rules}
use Rattle.line.proofs.Histories.{first_come_first_served}
use Rattle.line.proofs.Line.new.Goals as goal

pub returns : goal.returns
returns g c = search (rules, first_come_first_served)
