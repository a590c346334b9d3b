use Rattle.std.proofs.Common.{sym, arith}
use Rattle.trackside.specs.Plants.{stored}
use Rattle.trackside.proofs.Plants.{few_blocks, kind_there}
use Rattle.trackside.proofs.plant.Plant.position.Goals as goal

pub bounds-self-block : goal.bounds-self-block
bounds-self-block c = let p = c.args.self.now in omega (arith, few_blocks p, kind_there (stored p) c.args.block _ (sym c.in-Some-Point.ensures))
