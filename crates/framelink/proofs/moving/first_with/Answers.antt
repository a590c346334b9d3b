use Rattle.std.proofs.Common.{refl, sym, ◌∙◌}
use Rattle.framelink.proofs.Movements.{passed_more, passed_hit, passed_all}
use Rattle.framelink.proofs.moving.first_with.Goals as goal

pub loop-number-init : goal.loop-number-init
loop-number-init g c = λ p a. refl

pub returns-in-Some-clause-first : goal.returns-in-Some-clause-first
returns-in-Some-clause-first g c = λ p a.
    let asked = a c.index-trains-number.result c.test.result (record { shown = _; shows = refl; says = record { met = c.test.ensures } }) in
    passed_hit p c.args.trains.now c.loop-number.number c.index-trains-number.result c.loop-number-test.true c.index-trains-number.is (c.loop-number.invariant p a) c.in-Some.given (sym asked ∙ c.in-Some.is)

pub loop-number-preserved : goal.loop-number-preserved
loop-number-preserved g c = λ p a.
    let asked = a c.index-trains-number.result c.test.result (record { shown = _; shows = refl; says = record { met = c.test.ensures } }) in
    passed_more p c.args.trains.now c.loop-number.number c.index-trains-number.result c.loop-number-test.true c.index-trains-number.is (c.loop-number.invariant p a) (sym asked ∙ c.in_default.is)

pub returns-clause-first : goal.returns-clause-first
returns-clause-first g c = λ p a. passed_all p c.args.trains.now c.loop-number.number c.loop-number-test.false (c.loop-number.invariant p a)
