use Rattle.std.proofs.Common.{◌≡◌, ◌+◌, ◌≤◌, length}
use Rattle.network.specs.Drawing.{drawn, empty}
use Rattle.reader.specs.Words.{pieces}
use Rattle.reader.specs.Reads.{lines_declare}
use Rattle.reader.proofs.reader.declarations.Given as goal

-- what the rest declares from here is what the text declares from its start; each line took a byte or more
abbrev pub invariant-loop-rest : goal.invariant-loop-rest
invariant-loop-rest l =
    (lines_declare (drawn l.drawing) l.line (pieces 10 l.rest) ≡ lines_declare empty 1 (pieces 10 l.text))
    × (l.line + length l.rest ≤ 1 + length l.text)

abbrev pub decreases-loop-rest : goal.decreases-loop-rest
decreases-loop-rest l = length l.rest
