use Rattle.std.proofs.Math.Seq.{take-set-lt}
use Rattle.table.proofs.Table.set.Goals as goal

pub returns-then-at-self-clause-items : goal.returns-then-at-self-clause-items
returns-then-at-self-clause-items g c = take-set-lt c.args.self.now.len c.args.self.now.items c.args.at c.args.item c.if-at-self.true
