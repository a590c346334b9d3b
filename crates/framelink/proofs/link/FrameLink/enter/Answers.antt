use Rattle.std.proofs.Common.{◌≡◌, length, ap, ◌∙◌, rules}
use Rattle.network.specs.Network.{blocks_of}
use Rattle.table.specs.Tables.{items_of}
use Rattle.framelink.specs.Standing.{all_there}
use Rattle.framelink.specs.Trains.{trains_of}
use Rattle.framelink.proofs.Standing.{one_more, new_there, lit_blocks}
use Rattle.framelink.proofs.link.FrameLink.enter.Goals as goal

pub invariant_of-self-2-clause-there : goal.invariant_of-self-2-clause-there
invariant_of-self-2-clause-there c =
    let s = c.args.self.now in
    let n = length (blocks_of s.plant.network) in
    let same : length (blocks_of c.light.new.self.network) ≡ n = ap length (search (rules, lit_blocks)) in
    let there = one_more n (items_of s.trains) (items_of c.push.new.self) c.new-entering.result c.push.result c.push.ensures.items s.there (new_there n c.new-entering.result c.args.block c.in_ok-entered.entered c.requires c.new-entering.ensures) in
    ap (λ i. all_there i (trains_of c.push.new.self)) same ∙ there
