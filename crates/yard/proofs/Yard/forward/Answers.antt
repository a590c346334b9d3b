use Rattle.std.proofs.Common.{Ok, rules}
use Rattle.trackside.specs.declared.answers.Moved.TheVariants.{Forward as Forwarded}
use Rattle.yard.specs.declared.wish.Wish.TheVariants.{Forward}
use Rattle.yard.specs.Fleets.{stock}
use Rattle.yard.specs.Views.{view, with_trains}
use Rattle.yard.proofs.Finds.{is_there, some_stands, still_sound}
use Rattle.yard.proofs.Yard.forward.Goals as goal

pub front-requires : goal.front-requires
front-requires c = search (rules, some_stands)

pub put-requires : goal.put-requires
put-requires c = search (rules, is_there)

pub invariant_of-self-2 : goal.invariant_of-self-2
invariant_of-self-2 c =
    let after = with_trains (view c.args.self.now) (stock c.put.new.self) in
    record { sound = still_sound c.args.self.now (Forward c.args.train) (Ok (Forwarded c.args.train c.in_ok-next.next.block)) after (search rules) }
