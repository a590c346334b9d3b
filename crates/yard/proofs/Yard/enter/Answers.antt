use Rattle.std.proofs.Common.{Ok, rules}
use Rattle.trackside.specs.Plants.{stored}
use Rattle.trackside.specs.declared.answers.Moved.TheVariants.{Enter as Entered}
use Rattle.yard.specs.declared.wish.Wish.TheVariants.{Enter}
use Rattle.yard.specs.Fleets.{stock}
use Rattle.yard.specs.Views.{view, with_plant, with_trains}
use Rattle.yard.proofs.Finds.{still_sound}
use Rattle.yard.proofs.Yard.enter.Goals as goal

pub invariant_of-self-2 : goal.invariant_of-self-2
invariant_of-self-2 c =
    let after = with_plant (with_trains (view c.args.self.now) (stock c.add.new.self)) (stored c.light.new.self) in
    record { sound = still_sound c.args.self.now (Enter c.args.block) (Ok (Entered c.in_ok-train.train c.args.block)) after (search rules) }
