use Rattle.std.proofs.Common.{◌≡◌, ℕ, List, [], ◌∷◌, ◌++◌, length, Some, None, Option, sym, ap, ◌∙◌, append-nil, arith, rules}
use Rattle.std.proofs.lemmas.List.{nil_from_length, length_push}
use Rattle.std.specs.List.{slice_get}
use Rattle.table.specs.Tables.{items_of}
use Rattle.network.specs.declared.track.Block.{Block}
use Rattle.network.specs.declared.route.Step.{Step}
use Rattle.network.specs.Judge.{traced, after_steps, then_traced, step_of}
use Rattle.network.specs.Network.{blocks_of}
use Rattle.network.specs.Routes.{steps_if}
use Rattle.table.proofs.Pushes.{pushed_items}
use Rattle.network.proofs.Traces.{after_none, after_more}
use Rattle.network.proofs.rules.routes.trace.Goals as goal

-- the steps ss and the trace of the blocks xs, by the step through the first of them
module _ (bs : List Block) (e : ℕ) (xs r : List ℕ) (b : ℕ) (next : Option ℕ) (ss : List Step) (first : xs ≡ b ∷ r) (at : next ≡ slice_get r 0) where
  by_step : (o : Option (Step × ℕ)) → step_of bs b e next ≡ o → after_steps ss (traced bs e xs) ≡ after_steps ss (then_traced o (λ f. traced bs f r))
  by_step o h =
      ap (λ ys. after_steps ss (traced bs e ys)) first ∙ ap (λ s. after_steps ss (then_traced s (λ f. traced bs f r))) (ap (step_of bs b e) (sym at) ∙ h)

  goes_on : (s : Step) (f : ℕ) (ts : List Step) → step_of bs b e next ≡ Some (s, f) → ts ≡ ss ++ s ∷ [] → after_steps ss (traced bs e xs) ≡ after_steps ts (traced bs f r)
  goes_on s f ts h more = by_step (Some (s, f)) h ∙ after_more ss s (traced bs f r) ∙ ap (λ us. after_steps us (traced bs f r)) (sym more)

pub loop-number-init : goal.loop-number-init
loop-number-init c =
    let none = c.new-steps.ensures.items in
    let all = c.as_slice-rest.ensures.value in
    let whole = traced (blocks_of c.args.network.now) c.args.entered c.as_slice-rest.result.now in
    record {
      traces = ap (λ ss. after_steps ss whole) none ∙ after_none whole ∙ ap (traced (blocks_of c.args.network.now) c.args.entered) all;
      room = omega (arith, ap length none, c.as_slice-rest.ensures.within);
    }

pub returns-in_err-step : goal.returns-in_err-step
returns-in_err-step c =
    let l = c.loop-number in
    let next : c.copied.result ≡ slice_get c.in-Some.behind.now 0 = search rules in
    let stuck = by_step (blocks_of c.args.network.now) l.end l.rest.now _ _ _ (items_of l.steps) c.in-Some.ensures.cases.0 next None (sym c.step.ensures ∙ c.in_err-step.was) in
    ap steps_if c.from_residual.ensures ∙ sym stuck ∙ l.invariant.traces

pub loop-number-preserved : goal.loop-number-preserved
loop-number-preserved c =
    let l = c.loop-number in
    let next : c.copied.result ≡ slice_get c.in-Some.behind.now 0 = search rules in
    let more = pushed_items (items_of l.steps) c.in_ok-step.step c.push.ensures.items (omega (arith, l.invariant.room, c.in-Some.ensures.cases.1)) in
    let on = goes_on (blocks_of c.args.network.now) l.end l.rest.now _ _ _ (items_of l.steps) c.in-Some.ensures.cases.0 next _ _ _ (sym c.step.ensures ∙ c.in_ok-step.was) more in
    record {
      traces = sym on ∙ l.invariant.traces;
      room = omega (arith, l.invariant.room, c.in-Some.ensures.cases.1, ap length more, length_push (items_of l.steps) c.in_ok-step.step);
    }

pub returns : goal.returns
returns c =
    let l = c.loop-number in
    let none = nil_from_length l.rest.now c.in_default.ensures.cases in
    ap Some (sym (append-nil (items_of l.steps))) ∙ sym (ap (λ ys. after_steps (items_of l.steps) (traced (blocks_of c.args.network.now) l.end ys)) none) ∙ l.invariant.traces
