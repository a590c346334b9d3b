use Rattle.std.proofs.Common.{◌≡◌, [], ◌∷◌, ◌++◌, length, sym, ap, ◌∙◌, arith}
use Rattle.std.proofs.lemmas.List.FromFn.{length-map-range_with_len}
use Rattle.table.specs.Tables.{items_of}
use Rattle.table.proofs.Pushes.{pushed_in}
use Rattle.trackside.specs.Pictures.{glimpse_of}
use Rattle.trackside.proofs.Rows.{front_more}
use Rattle.trackside.proofs.picture.copying.copied.Goals as goal

pub loop-block-preserved : goal.loop-block-preserved
loop-block-preserved g c =
    let l = c.loop-block in
    let sees = glimpse_of (g.L.Look.as_ground c.args.looked.now) in
    let many : length (items_of l.glimpses) ≡ l.block = ap length l.invariant ∙ length-map-range_with_len sees 0 l.block in
    let more = ap (λ p. p.1) (c.push.ensures.items ∙ pushed_in 64 (items_of l.glimpses) _ (omega arith)) in
    let seen = c.glimpse.ensures in
    let front = l.invariant in
    more ∙ (λ i. front i ++ seen i ∷ []) ∙ sym (front_more sees l.block)
