use Rattle.yard.proofs.Records.{joins, stays}
use Rattle.yard.proofs.fleet.Fleet.add.Goals as goal

pub returns-then-train-self-clause-stock : goal.returns-then-train-self-clause-stock
returns-then-train-self-clause-stock c = stays c.args.self.now c.args.stand c.if-train-self.true

pub returns-clause-stock : goal.returns-clause-stock
returns-clause-stock c = joins c.args.self.now c.args.stand c.at.result c.at.ensures c.if-train-self.false
