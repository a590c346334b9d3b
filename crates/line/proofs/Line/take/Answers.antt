use Rattle.std.proofs.Common.{◌<◌, arith, rules}
use Rattle.line.proofs.Steps.{serves, goes_on}
use Rattle.line.proofs.Line.take.Goals as goal

pub returns : goal.returns
returns g c =
    let s = c.args.self.now in
    let some : 0 < s.count = omega arith in
    let answer = serves s c.front-at.result some c.front-at.ensures.value c.index-self-at.result in
    let behind = goes_on s c.front-at.result some c.front-at.ensures.value in
    search rules
