use Rattle.std.proofs.Common.{rules}
use Rattle.commands.proofs.Reading.{reads}
use Rattle.commands.proofs.command.read_command.Goals as goal

pub returns-in_err-number-clause-reads : goal.returns-in_err-number-clause-reads
returns-in_err-number-clause-reads c = reads _ _ (search rules)

pub returns-clause-reads : goal.returns-clause-reads
returns-clause-reads c = reads _ _ (search rules)
