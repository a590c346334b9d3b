use Rattle.std.proofs.Common.{arith}
use Rattle.std.proofs.lemmas.Grind.{common_steps}
use Rattle.commands.proofs.Splitting.{lines_first}
use Rattle.commands.proofs.lines.next_line.Goals as goal

pub returns-clause-lines : goal.returns-clause-lines
returns-clause-lines c = lines_first c.args.text.now c.unwrap_or.result.0.now c.unwrap_or.result.1.now (grind (arith, common_steps))
