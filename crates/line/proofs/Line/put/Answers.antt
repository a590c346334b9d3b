use Rattle.std.proofs.Common.{rules}
use Rattle.line.proofs.Steps.{joins, stores, is_refused, stores_none}
use Rattle.line.proofs.Line.put.Goals as goal

pub returns-then-self-size : goal.returns-then-self-size
returns-then-self-size g c =
    let s = c.args.self.now in
    let answer = is_refused s c.args.item c.if-self-size.true in
    let memory = stores_none s c.args.item c.if-self-size.true in
    search rules

pub returns : goal.returns
returns g c =
    let s = c.args.self.now in
    let answer = joins s c.back-at.result c.args.item c.if-self-size.false c.back-at.ensures.value in
    let memory = stores s c.back-at.result c.args.item c.if-self-size.false c.back-at.ensures.value in
    search rules
