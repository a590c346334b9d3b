use Rattle.std.proofs.Common.{List, Option}
use Rattle.framelink.specs.Movements.{TestsBy}
use Rattle.trackside.specs.declared.answers.Stand.{Stand}
use Rattle.framelink.proofs.Movements.{Passed}
use Rattle.framelink.proofs.moving.first_with.Given as goal

abbrev pub invariant-loop-number : goal.invariant-loop-number
invariant-loop-number g l = (p : List Stand → Option g.row.X.Denot) → TestsBy g.F.Fn l.test p → Passed p l.trains l.number
