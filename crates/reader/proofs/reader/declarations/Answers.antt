use Rattle.std.proofs.Common.{◌≡◌, Some, Err, sym, ap, ◌∙◌, arith, rules}
use Rattle.std.specs.Option.{ok_or}
use Rattle.std.proofs.lemmas.Result.{err_from_is_err_and}
use Rattle.network.specs.Drawing.{drawn}
use Rattle.reader.specs.declared.refusal.Refusal.TheVariants.{Form}
use Rattle.reader.specs.Words.{cut}
use Rattle.reader.specs.Views.{both_held, drawn_in}
use Rattle.reader.proofs.Cuts.{cut_shorter}
use Rattle.reader.proofs.LineWalk.{line_read, line_refused, no_line_end, all_lines}
use Rattle.reader.proofs.reader.declarations.Goals as goal

pub returns-in_err-said : goal.returns-in_err-said
returns-in_err-said c =
    let l = c.loop-rest in
    let p = err_from_is_err_and c.from_residual.result c.from_residual.ensures.1 in
    let none = c.in_err-said.ensures.ok_part in
    let form = c.in_err-said.ensures.value ∙ ap (λ o. ok_or o (Form l.line)) none in
    let this : c.in_err-said.field-0.0 ≡ Form l.line = cc in
    let end = no_line_end (drawn l.drawing) l.line l.rest.now (search rules) (sym (ap both_held none) ∙ c.split_once.ensures) in
    ap drawn_in p.1 ∙ ap Err (p.2 ∙ this) ∙ end ∙ l.invariant.0

pub returns-in_err-declare : goal.returns-in_err-declare
returns-in_err-declare c =
    let l = c.loop-rest in
    let p = err_from_is_err_and c.from_residual-in_err-declare.result c.from_residual-in_err-declare.ensures.1 in
    let at : Some (c.in_ok-said.said.now, c.in_ok-said.behind.now) ≡ cut 10 l.rest.now = sym (ap both_held c.in_ok-said.ensures.ok_part) ∙ c.split_once.ensures in
    let q = line_refused (drawn l.drawing) l.line l.rest.now c.in_ok-said.said.now c.in_ok-said.behind.now c.in_err-declare.field-0.0 at c.in_err-declare.ensures in
    ap drawn_in p.1 ∙ ap Err p.2 ∙ q ∙ l.invariant.0

pub loop-rest-preserved : goal.loop-rest-preserved
loop-rest-preserved c =
    let l = c.loop-rest in
    let p = c.in_ok-said.said.now in
    let q = c.in_ok-said.behind.now in
    let at : Some (p, q) ≡ cut 10 l.rest.now = sym (ap both_held c.in_ok-said.ensures.ok_part) ∙ c.split_once.ensures in
    let on = line_read (drawn l.drawing) l.line l.rest.now p q (drawn c.declare.new.drawing) at c.in_ok-declare.ensures in
    (on ∙ l.invariant.0, omega (arith, cut_shorter 10 l.rest.now p q at, l.invariant.1))

pub loop-rest-smaller : goal.loop-rest-smaller
loop-rest-smaller c =
    let l = c.loop-rest in
    cut_shorter 10 l.rest.now c.in_ok-said.said.now c.in_ok-said.behind.now (sym (ap both_held c.in_ok-said.ensures.ok_part) ∙ c.split_once.ensures)

pub returns : goal.returns
returns c = let l = c.loop-rest in all_lines (drawn l.drawing) l.line l.rest.now (search rules) ∙ l.invariant.0
