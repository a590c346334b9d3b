use Rattle.std.proofs.Common.{◌≡◌, ℕ, suc, ◌+◌, ◌<◌, List, [], ◌∷◌, ◌++◌, map, length, get_or, drop, Ok, Result, sym, ap, ◌∙◌, append-nil, add-one, arith}
use Rattle.std.proofs.lemmas.List.{length-map, length_push, get_or-map, map_push, at_drop_all}
use Rattle.table.specs.declared.Table.{Table}
use Rattle.table.specs.Tables.{items_of}
use Rattle.network.specs.declared.track.Block.{Block}
use Rattle.network.specs.declared.route.Step.{Step}
use Rattle.network.specs.declared.rules.RouteRule.{RouteRule}
use Rattle.network.specs.Drawing.{numbers_of, lists_of}
use Rattle.network.specs.Judge.{judge_route, judge_routes, after_routes, then_judged}
use Rattle.network.specs.Network.{blocks_of}
use Rattle.network.specs.Routes.{steps_of, routes_of}
use Rattle.table.proofs.Pushes.{pushed_items}
use Rattle.network.proofs.Traces.{after_no_routes, after_more_routes, judged_on}
use Rattle.network.proofs.rules.routes.judge_routes.Goals as goal

-- the routes judged and the rest, by what was found of the i-th list x; the loop reads the lists as xs
by_route : (bs : List Block) (lists xs : List (Table ℕ 24)) (i : ℕ) (x : Table ℕ 24) (sss : List (List Step)) (o : Result (List Step) RouteRule) → xs ≡ lists → i < length xs → x ≡ get_or xs i x → o ≡ judge_route bs (numbers_of x) → after_routes sss (judge_routes bs i (drop i (map numbers_of lists))) ≡ after_routes sss (then_judged i o (judge_routes bs (suc i) (drop (i + 1) (map numbers_of lists))))
by_route bs lists xs i x sss o e l at h =
    let there : i < length lists = omega (arith, ap length e) in
    let same = get_or-map numbers_of lists i x [] there ∙ ap numbers_of (sym (at ∙ ap (λ ys. get_or ys i x) e)) in
    ap (after_routes sss) (judged_on bs (map numbers_of lists) i o (omega (arith, length-map lists numbers_of)) (h ∙ ap (judge_route bs) (sym same)))

pub loop-number-init : goal.loop-number-init
loop-number-init c =
    let none = c.new-routes.ensures.items in
    let all = judge_routes (blocks_of c.args.network.now) 0 (lists_of c.args.lists.now) in
    record { judges = ap (λ rs. after_routes (map steps_of rs) all) none ∙ after_no_routes all; many = ap length none }

pub returns-in-Err : goal.returns-in-Err
returns-in-Err c =
    let l = c.loop-number in
    sym (by_route (blocks_of c.args.network.now) _ _ l.number _ (routes_of l.routes) _ c.as_slice-listed-items.ensures.value c.loop-number-test.true c.listed-item.is c.in-Err.ensures) ∙ l.invariant.judges

pub loop-number-preserved : goal.loop-number-preserved
loop-number-preserved c =
    let l = c.loop-number in
    let bs = blocks_of c.args.network.now in
    let i = l.number in
    let rs = items_of l.routes in
    let ss = steps_of c.in-Ok.route in
    let rest = drop (i + 1) (lists_of c.args.lists.now) in
    let this = by_route bs _ _ i _ (routes_of l.routes) _ c.as_slice-listed-items.ensures.value c.loop-number-test.true c.listed-item.is c.in-Ok.ensures in
    let more = pushed_items rs c.in-Ok.route c.push.ensures.items (omega (arith, l.invariant.many, c.loop-number-test.true, c.as_slice-listed-items.ensures.within)) in
    record {
      judges = ap (λ ys. after_routes ys (judge_routes bs (i + 1) rest)) (ap (map steps_of) more ∙ map_push steps_of rs c.in-Ok.route)
          ∙ ap (λ k. after_routes (map steps_of rs ++ ss ∷ []) (judge_routes bs k rest)) (add-one i)
          ∙ sym (after_more_routes (map steps_of rs) ss (judge_routes bs (suc i) rest)) ∙ sym this ∙ l.invariant.judges;
      many = omega (arith, ap length more, length_push rs c.in-Ok.route, l.invariant.many);
    }

pub returns : goal.returns
returns c =
    let l = c.loop-number in
    let lists = lists_of c.args.lists.now in
    let end = at_drop_all (judge_routes (blocks_of c.args.network.now) l.number) lists l.number (omega (arith, length-map (items_of c.args.lists.now) numbers_of, ap length c.as_slice-listed-items.ensures.value)) in
    ap Ok (sym (append-nil (routes_of l.routes))) ∙ sym (ap (after_routes (routes_of l.routes)) end) ∙ l.invariant.judges
