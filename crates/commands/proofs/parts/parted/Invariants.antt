use Rattle.std.proofs.Common.{length}
use Rattle.commands.proofs.Parting.{At}
use Rattle.commands.proofs.parts.parted.Given as goal

-- what is left begins with a new line, and no line before it is the mark
abbrev pub invariant-loop-line : goal.invariant-loop-line
invariant-loop-line l = At l.input l.rest

abbrev pub decreases-loop-line : goal.decreases-loop-line
decreases-loop-line l = length l.rest
