use Rattle.std.proofs.Common.{rules}
use Rattle.network.specs.declared.route.Step.{Step}
use Rattle.book.specs.Guards.{not_possessed, not_reserved}
use Rattle.book.proofs.Tries.{every_asked}
use Rattle.book.proofs.Book.may_reserve.Goals as goal

pub returns-in_err-try_for_each : goal.returns-in_err-try_for_each
returns-in_err-try_for_each c =
    let one = every_asked _ _ (λ (s : Step). not_possessed c.args.self.now s.block) (λ x v q k. search rules) c.iter.ensures.rest c.try_for_each.ensures.ran in
    search rules

pub returns : goal.returns
returns c =
    let one = every_asked _ _ (λ (s : Step). not_possessed c.args.self.now s.block) (λ x v q k. search rules) c.iter.ensures.rest c.try_for_each.ensures.ran in
    let other = every_asked _ _ (λ (s : Step). not_reserved c.args.self.now s.block) (λ x v q k. search rules) c.iter-2.ensures.rest c.try_for_each-2.ensures.ran in
    search rules
