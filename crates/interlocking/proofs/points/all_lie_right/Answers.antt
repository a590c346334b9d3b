use Rattle.std.proofs.Common.{rules}
use Rattle.book.proofs.Tries.{every_asked}
use Rattle.interlocking.specs.Points.{lies_right}
use Rattle.interlocking.proofs.points.all_lie_right.Goals as goal

pub returns : goal.returns
returns g c =
    every_asked _ _ (lies_right (g.T.Look.as_ground c.args.trackside.now)) (λ x v q k. search rules) c.iter.ensures.rest c.try_for_each.ensures.ran
