use Rattle.std.proofs.Common.{ℕ, eqb, ap, ◌∙◌, rules, tests}
use Rattle.std.proofs.lemmas.Iterator.Splits.{YieldsList-from_slice_split}
use Rattle.std.proofs.lemmas.Iterator.Consumers.{nth_from_yields_List}
use Rattle.report.proofs.Pieces.{piece_or}
use Rattle.report.proofs.line.line_behind.Goals as goal

pub returns : goal.returns
returns c =
    let t = c.args.text.now in
    let nth = nth_from_yields_List c.nth.result _ c.args.ends c.nth.ensures.ran (YieldsList-from_slice_split _ (λ (b : ℕ). eqb b 10) t c.split.ensures.rest c.split.ensures.done c.split.ensures.closure (λ x b q k. search (rules, tests))) in
    ap (λ r. r.now) c.unwrap_or.ensures ∙ piece_or 10 c.args.ends t c.nth.result _ nth
