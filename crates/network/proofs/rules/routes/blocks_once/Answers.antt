use Rattle.std.proofs.Common.{◌≡◌, true, false, ◌&&◌, leb, length, replicate, sym, ap, ◌∙◌, arith}
use Rattle.std.proofs.lemmas.List.{take-replicate}
use Rattle.std.proofs.lemmas.Bool.{le-leb}
use Rattle.network.specs.Network.{blocks_of}
use Rattle.network.specs.Judge.{once}
use Rattle.network.proofs.Limits.{few_blocks}
use Rattle.network.proofs.rules.routes.blocks_once.Goals as goal

pub returns-then-numbers-ge2 : goal.returns-then-numbers-ge2
returns-then-numbers-ge2 c =
    let ns = c.args.numbers.now in
    let n = c.len.result in
    let few = few_blocks c.args.network.now in
    let front = take-replicate n 64 false (omega (arith, few, c.len.ensures)) in
    let told : c.once.result ≡ once (replicate n false) ns = c.once.ensures ∙ ap (λ s. once s ns) front in
    let long : leb 2 (length ns) ≡ true = le-leb _ _ c.if-numbers-ge2.true in
    told ∙ ap (λ k. once (replicate k false) ns) c.len.ensures ∙ sym (ap (λ b. b && once (replicate (length (blocks_of c.args.network.now)) false) ns) long)
