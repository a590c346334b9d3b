use Rattle.std.proofs.Common.{rules}
use Rattle.network.specs.declared.route.Step.{Step}
use Rattle.book.specs.Guards.{held_and_empty}
use Rattle.book.proofs.Tries.{every_asked}
use Rattle.book.proofs.Book.may_open.Goals as goal

pub returns : goal.returns
returns c =
    let z = every_asked _ _ (λ (s : Step). held_and_empty c.args.self.now c.args.route s.block) (λ x v q k. search rules) c.iter.ensures.rest c.try_for_each.ensures.ran in search rules
