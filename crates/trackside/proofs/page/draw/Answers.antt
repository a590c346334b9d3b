use Rattle.std.proofs.Common.{◌≡◌, ◌+◌, ◌-◌, false, leb, [], ◌∷◌, ◌++◌, length, take, drop, Ok, sym, ap, ◌∙◌, arith}
use Rattle.std.proofs.lemmas.List.{length-take-le}
use Rattle.std.proofs.lemmas.Bool.{lt-leb, cond-false}
use Rattle.trackside.specs.Pages.{marks, check_of}
use Rattle.trackside.proofs.Pages.{page_whole}
use Rattle.trackside.proofs.page.draw.Goals as goal

pub returns : goal.returns
returns g c =
    let as_ground = g.L.Look.as_ground c.args.looked.now in
    let n = c.block_count-count.result in
    let page = c.args.page.now in
    let long : length (take (n - 0) page) ≡ n = length-take-le (n - 0) page (omega arith) ∙ omega arith in
    let behind : drop (n - 0) page ≡ drop n page = ap (λ k. drop k page) (omega arith) in
    let whole = page_whole as_ground c.fill-check.new.row (drop (n - 0) page) page n _ _ long c.fill-check.ensures.row c.fill-check.ensures.check behind (omega (arith, c.if-page-needed.false)) in
    let count = c.block_count-count.ensures in
    let room : leb (length page) as_ground.count ≡ false = lt-leb _ _ (omega (arith, count, c.if-page-needed.false)) in
    (λ i. (Ok (n + 1), whole i))
    ∙ ap (λ k. (Ok (k + 1), (marks as_ground k ++ check_of (marks as_ground k) ∷ []) ++ drop (k + 1) page)) count ∙ sym (cond-false _ _ _ room)
