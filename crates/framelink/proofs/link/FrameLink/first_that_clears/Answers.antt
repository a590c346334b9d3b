use Rattle.std.proofs.Common.{map, ap, ◌∙◌, rules}
use Rattle.trackside.specs.Plants.{stored}
use Rattle.framelink.specs.Movements.{first_with, train_clears}
use Rattle.framelink.specs.Trains.{stands_of}
use Rattle.framelink.proofs.link.FrameLink.first_that_clears.Goals as goal

pub returns-clause-first : goal.returns-clause-first
returns-clause-first c =
    let test = train_clears (stored c.args.self.now.plant) c.args.block in
    c.first_with.ensures.first test (λ t r a. search rules) ∙ ap (λ ts. first_with test 0 (map stands_of ts)) c.as_slice.ensures.value
