-- How a trace goes on, one block after the other, and a judgement, one route after the other. Assumes nothing.
use Rattle.std.proofs.Common.{◌≡◌, ℕ, suc, ◌+◌, ◌<◌, List, [], ◌∷◌, ◌++◌, length, get_or, drop, Some, None, Ok, Err, Option, Result, sym, refl, ap, ◌∙◌}
use Rattle.std.proofs.lemmas.List.{append_assoc, at_drop_more}
use Rattle.std.specs.List.{slice_get}
use Rattle.network.specs.declared.track.Block.{Block}
use Rattle.network.specs.declared.route.Step.{Step}
use Rattle.network.specs.declared.rules.RouteRule.{RouteRule}
use Rattle.network.specs.declared.rules.Broken.{Broken}
use Rattle.network.specs.Judge.{step_of, after_steps, then_traced, traced, judge_route, after_routes, then_judged, judge_routes}

pub after_none : (o : Option (List Step)) → after_steps [] o ≡ o
after_none None = refl
after_none (Some ss) = refl

pub after_more : (ss : List Step) (s : Step) (o : Option (List Step)) → after_steps ss (after_steps (s ∷ []) o) ≡ after_steps (ss ++ s ∷ []) o
after_more ss s None = refl
after_more ss s (Some ts) = ap Some (sym (append_assoc ss (s ∷ []) ts))

-- the trace from the i-th block on, by the step through that block
pub traced_on : (bs : List Block) (e : ℕ) (ns : List ℕ) (i : ℕ) (o : Option (Step × ℕ)) → i < length ns → o ≡ step_of bs (get_or ns i 0) e (slice_get (drop (i + 1) ns) 0) → traced bs e (drop i ns) ≡ then_traced o (λ f. traced bs f (drop (i + 1) ns))
traced_on bs e ns i o l h = at_drop_more (traced bs e) ns i 0 l ∙ ap (λ x. then_traced x (λ f. traced bs f (drop (i + 1) ns))) (sym h)

pub after_no_routes : (o : Result (List (List Step)) Broken) → after_routes [] o ≡ o
after_no_routes (Ok sss) = refl
after_no_routes (Err e) = refl

pub after_more_routes : (sss : List (List Step)) (ss : List Step) (o : Result (List (List Step)) Broken) → after_routes sss (after_routes (ss ∷ []) o) ≡ after_routes (sss ++ ss ∷ []) o
after_more_routes sss ss (Ok ttt) = ap Ok (sym (append_assoc sss (ss ∷ []) ttt))
after_more_routes sss ss (Err e) = refl

-- the judgement from the i-th route on, by that of the i-th
pub judged_on : (bs : List Block) (rs : List (List ℕ)) (i : ℕ) (o : Result (List Step) RouteRule) → i < length rs → o ≡ judge_route bs (get_or rs i []) → judge_routes bs i (drop i rs) ≡ then_judged i o (judge_routes bs (suc i) (drop (i + 1) rs))
judged_on bs rs i o l h = at_drop_more (judge_routes bs i) rs i [] l ∙ ap (λ x. then_judged i x (judge_routes bs (suc i) (drop (i + 1) rs))) (sym h)
