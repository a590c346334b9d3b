use Rattle.std.proofs.Common.{ℕ, rules, refl, ◌∙◌, tests}
use Rattle.std.proofs.lemmas.Iterator.{YieldsList-from_range}
use Rattle.std.proofs.lemmas.Iterator.Search.{all_from_yields_List}
use Rattle.network.specs.Network.{blocks_of}
use Rattle.network.specs.Joints.{passes, mutual_at}
use Rattle.network.proofs.Ends.{ends_mutual}
use Rattle.network.proofs.rules.blocks.Site.all_mutual.Goals as goal

pub returns : goal.returns
returns c =
    let bs = blocks_of c.args.self.now.network.now in
    let test = λ (e : ℕ). passes (mutual_at bs c.args.self.now.number c.args.self.now.block e) c.args.self.now.block e in
    all_from_yields_List test _ _ c.all.result c.all.ensures.ran (YieldsList-from_range 0 4 4 refl refl) (λ x b q k. search (rules, tests)) ∙ ends_mutual bs c.args.self.now.number c.args.self.now.block
