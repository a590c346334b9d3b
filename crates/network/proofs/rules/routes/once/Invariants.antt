use Rattle.std.proofs.Common.{◌≡◌, drop}
use Rattle.network.specs.Judge.{once}
use Rattle.network.proofs.rules.routes.once.Given as goal

abbrev pub invariant-loop-number : goal.invariant-loop-number
invariant-loop-number l = once l.seen (drop l.number-index l.numbers) ≡ once l.initial.seen l.numbers
