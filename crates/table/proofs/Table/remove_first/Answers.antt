use Rattle.std.proofs.Common.{rules, arith}
use Rattle.table.proofs.Closing.{first_goes}
use Rattle.table.proofs.Table.remove_first.Goals as goal

pub returns-then-self-gt0-clause-items : goal.returns-then-self-gt0-clause-items
returns-then-self-gt0-clause-items g c =
    let goes = first_goes c.args.self.now.items c.args.self.now.len (omega (arith, c.args.self.now.fits)) c.if-self-gt0.true in
    search (rules, goes)
