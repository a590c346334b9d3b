use Rattle.std.proofs.Common.{◌≡◌, get_or, Err, sym, subst, ◌∙◌, arith, rules}
use Rattle.network.specs.declared.route.Step.{Step}
use Rattle.network.specs.Rules.{no_step}
use Rattle.trackside.specs.declared.answers.Stuck.{Stuck}
use Rattle.book.specs.declared.refusal.Refusal.TheVariants.{PointStuck}
use Rattle.interlocking.proofs.Laid.{stops_stuck, goes_on, goes_on_thrown, ends_laid}
use Rattle.interlocking.proofs.points.lay_points.Goals as goal
use Rattle.interlocking.proofs.points.lay_points.Goals.{in-Some+in_ok-map_err, in_default}

pub returns-in_err-map_err : goal.returns-in_err-map_err
returns-in_err-map_err g c =
    let at : Step = get_or c.args.steps.now c.loop-step.step-index no_step in
    let is : c.from_residual.result ≡ Err (PointStuck at.block) = search rules in
    let told : (e : Stuck) × (c.throw.result ≡ Err e) = search rules in
    rw is (c.loop-step.invariant.1 _ _ (stops_stuck c.args.steps.now c.loop-step.step-index no_step c.loop-step-test.true c.in-Some.position (sym c.wrong_at.ensures ∙ c.in-Some.is) (subst (λ o. g.T.Look.throws c.loop-step.trackside at.block c.in-Some.position o c.throw.new.self) told.1 c.throw.ensures)))

pub loop-step-preserved : goal.loop-step-preserved
loop-step-preserved g c =
    let more = c.loop-step.invariant.1 in
    let few = c.loop-step.invariant.0 in
    elim c.match-wrong_at.branch [
      | in-Some+in_ok-map_err w ↦ (
        omega (arith, w.thrown-is, few),
        λ a t h. more a t (goes_on_thrown c.args.steps.now c.loop-step.step-index _ c.loop-step-test.true w.in-Some.position (sym c.wrong_at.ensures ∙ w.in-Some.is) (subst (λ o. g.T.Look.throws c.loop-step.trackside _ w.in-Some.position o w.throw.new.self) (search rules) w.throw.ensures) (simp (w.trackside-is, w.thrown-is) at h)),
      )
      | in_default w ↦ (
        omega (arith, w.thrown-is, few),
        λ a t h. more a t (goes_on c.args.steps.now c.loop-step.step-index _ c.loop-step-test.true (sym c.wrong_at.ensures ∙ w.in_default.is) (simp (w.trackside-is, w.thrown-is) at h)),
      )
    ]

pub returns : goal.returns
returns g c = c.loop-step.invariant.1 _ _ (ends_laid c.args.steps.now c.loop-step.step-index c.loop-step-test.false)
