use Rattle.std.proofs.Common.{◌∙◌, rules, tests}
use Rattle.std.proofs.lemmas.Iterator.{YieldsList-from_slice}
use Rattle.std.proofs.lemmas.Iterator.Search.{any_from_yields_List}
use Rattle.table.specs.Tables.{items_of}
use Rattle.trackside.specs.Ground.{stands_in}
use Rattle.framelink.specs.Trains.{stands_of}
use Rattle.framelink.proofs.Trains.{trains_any}
use Rattle.framelink.proofs.link.make.FrameLinkLook.occupied.Goals as goal

pub returns : goal.returns
returns c =
    let ts = items_of c.args.self.now.trains in
    any_from_yields_List (λ t. stands_in (stands_of t) c.args.block) _ _ _ c.any.ensures.ran (YieldsList-from_slice ts (cc)) (λ x b q k. search (rules, tests)) ∙ trains_any ts c.args.block
