use Rattle.std.proofs.Common.{rules, arith}
use Rattle.table.proofs.Closing.{front_closes}
use Rattle.table.proofs.Table.remove.Goals as goal

pub returns-then-at-self-clause-items : goal.returns-then-at-self-clause-items
returns-then-at-self-clause-items g c =
    let closes = front_closes c.args.self.now.items c.args.self.now.len c.args.at (omega (arith, c.args.self.now.fits)) c.if-at-self.true in
    search (rules, closes)
