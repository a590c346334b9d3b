use Rattle.std.proofs.Common.{sym, ap, ◌∙◌}
use Rattle.interlocking.specs.Fitness.{first_unfit}
use Rattle.interlocking.proofs.Checks.{unfit_here, fit_here, all_fit}
use Rattle.interlocking.proofs.fitness.first_unfit.Goals as goal

pub returns-in-Some : goal.returns-in-Some
returns-in-Some g c says agrees =
    unfit_here says c.blocks-drawn-items.result.now c.loop-number.number _ c.loop-number-test.true c.in-Some.unfit (sym (agrees _ _ _ c.check.ensures) ∙ c.in-Some.is) (c.loop-number.invariant says agrees)
    ∙ ap (first_unfit says 0) c.blocks-drawn-items.ensures

pub loop-number-preserved : goal.loop-number-preserved
loop-number-preserved g c says agrees =
    fit_here says c.blocks-drawn-items.result.now c.loop-number.number _ c.loop-number-test.true (sym (agrees _ _ _ c.check.ensures) ∙ c.in_default.is) (c.loop-number.invariant says agrees)

pub returns : goal.returns
returns g c says agrees =
    all_fit says c.blocks-drawn-items.result.now c.loop-number.number c.loop-number-test.false (c.loop-number.invariant says agrees)
    ∙ ap (first_unfit says 0) c.blocks-drawn-items.ensures
