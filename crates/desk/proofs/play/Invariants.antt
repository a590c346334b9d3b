use Rattle.std.proofs.Common.{length, string_bytes}
use Rattle.commands.specs.Lines.{lines_of}
use Rattle.desk.specs.Days.{Worked}
use Rattle.desk.proofs.Working.{SoFar}
use Rattle.desk.proofs.play.Given as goal

abbrev pub invariant-loop-line : goal.invariant-loop-line
invariant-loop-line g l =
    let joins = g.T.Wishing.joins in
    SoFar g.T.Look joins l.initial.interlocking (lines_of l.commands) (string_bytes l.initial.out) l.interlocking (lines_of l.rest) (string_bytes l.out) × Worked g.T.Look joins l.initial.interlocking l.interlocking

abbrev pub decreases-loop-line : goal.decreases-loop-line
decreases-loop-line g l = length l.rest
