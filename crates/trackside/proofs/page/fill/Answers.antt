use Rattle.std.proofs.Common.{◌≡◌, length, ap, ◌∙◌, arith}
use Rattle.trackside.specs.Pages.{page_mark, marks, check_of}
use Rattle.trackside.proofs.Pages.{check_more}
use Rattle.trackside.proofs.Rows.{row_more, row_full}
use Rattle.trackside.proofs.page.fill.Goals as goal

pub loop-block-preserved : goal.loop-block-preserved
loop-block-preserved g c =
    let as_ground = g.L.Look.as_ground c.args.looked.now in
    let l = c.loop-block in
    (row_more (page_mark as_ground) l.row c.args.row.now l.block _ 0 l.invariant.0 c.mark.ensures c.loop-block-test.true, check_more as_ground l.check l.block _ l.invariant.1 c.mark.ensures)

pub returns : goal.returns
returns g c =
    let as_ground = g.L.Look.as_ground c.args.looked.now in
    let l = c.loop-block in
    let all : l.block ≡ length c.args.row.now = omega arith in
    record { row = l.invariant.0 ∙ row_full (page_mark as_ground) c.args.row.now l.block c.loop-block-test.false ∙ ap (marks as_ground) all; check = l.invariant.1 ∙ ap (λ n. check_of (marks as_ground n)) all }
