use Rattle.std.proofs.Common.{rules, refl, ◌∙◌, tests}
use Rattle.std.proofs.lemmas.Iterator.{YieldsList-from_range}
use Rattle.std.proofs.lemmas.Iterator.Search.{all_from_yields_List}
use Rattle.network.specs.Network.{blocks_of}
use Rattle.network.specs.Joints.{joint_exists, passes}
use Rattle.network.proofs.Ends.{ends_exist}
use Rattle.network.proofs.rules.blocks.Site.all_exist.Goals as goal

pub returns : goal.returns
returns c =
    let bs = blocks_of c.args.self.now.network.now in
    all_from_yields_List (passes (joint_exists bs) c.args.self.now.block) _ _ c.all.result c.all.ensures.ran (YieldsList-from_range 0 4 4 refl refl) (λ x b q k. search (rules, tests)) ∙ ends_exist bs c.args.self.now.block
