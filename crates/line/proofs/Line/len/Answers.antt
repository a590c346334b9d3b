use Rattle.std.proofs.Common.{sym}
use Rattle.line.proofs.Steps.{counted}
use Rattle.line.proofs.Line.len.Goals as goal

pub returns : goal.returns
returns g c = sym (counted c.args.self.now)
