use Rattle.std.proofs.Common.{string_bytes, sym, ap, ◌∙◌}
use Rattle.std.proofs.lemmas.Result.{IfOk-weaker}
use Rattle.reader.specs.Views.{plan_in}
use Rattle.report.specs.Reports.{report_in}
use Rattle.report.proofs.Telling.{reported}
use Rattle.report.proofs.text.Goals as goal

pub returns-in-Ok : goal.returns-in-Ok
returns-in-Ok c =
    let t = c.args.sheet.now in
    IfOk-weaker c.to_string.result _ _ (λ s e. reported t (string_bytes s) c.args.found.now (e ∙ sym (ap (λ f. report_in t (plan_in f)) c.in-Ok.is))) c.to_string.ensures.ok

pub returns-in-Err : goal.returns-in-Err
returns-in-Err c =
    let t = c.args.sheet.now in
    IfOk-weaker c.to_string-in-Err.result _ _ (λ s e. reported t (string_bytes s) c.args.found.now (e ∙ sym (ap (λ f. report_in t (plan_in f)) c.in-Err.is))) c.to_string-in-Err.ensures.ok
