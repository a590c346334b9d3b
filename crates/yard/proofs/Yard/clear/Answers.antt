use Rattle.std.proofs.Common.{Ok, rules}
use Rattle.trackside.specs.declared.answers.Moved.TheVariants.{Clear as Cleared}
use Rattle.yard.specs.declared.wish.Wish.TheVariants.{Clear}
use Rattle.yard.specs.Fleets.{stock}
use Rattle.yard.specs.Views.{view, with_trains}
use Rattle.yard.proofs.Finds.{is_there, some_stands, still_sound}
use Rattle.yard.proofs.Yard.clear.Goals as goal

pub rear-rear-requires : goal.rear-rear-requires
rear-rear-requires c = search (rules, some_stands)

pub put-requires : goal.put-requires
put-requires c = search (rules, is_there)

pub invariant_of-self : goal.invariant_of-self
invariant_of-self c =
    let after = with_trains (view c.args.self.now) (stock c.put.new.self) in
    record { sound = still_sound c.args.self.now (Clear c.args.train) (Ok (Cleared c.args.train c.rear-rear.result.block)) after (search rules) }

pub take_out-requires : goal.take_out-requires
take_out-requires c = search (rules, is_there)

pub invariant_of-self-then-can_leave : goal.invariant_of-self-then-can_leave
invariant_of-self-then-can_leave c =
    let after = with_trains (view c.args.self.now) (stock c.take_out.new.self) in
    record { sound = still_sound c.args.self.now (Clear c.args.train) (Ok (Cleared c.args.train c.rear-rear.result.block)) after (search rules) }
