-- A report that follows from a right answer is right. Assumes nothing.
use Rattle.std.proofs.Common.{◌≡◌, ℕ, List, ◌++◌, get_or, is_ok, Ok, Err, codes, Result, sym, ap, ◌∙◌, subst, arith}
use Rattle.network.specs.declared.sheet.Sheet.{Sheet}
use Rattle.network.specs.Judge.{Plan}
use Rattle.network.specs.Sheets.{plan_of}
use Rattle.reader.specs.declared.refusal.Refusal.{Refusal}
use Rattle.reader.specs.Text.{Accepted, Refused, Answers}
use Rattle.reader.specs.Views.{plan_in}
use Rattle.report.specs.Texts.{ok_line, no_line, line_end, routes_text, reason_text}
use Rattle.report.specs.Reports.{report_in, Tells, Reports}

-- no text begins with both words
apart : (xs ys : List ℕ) → codes "ok " ++ xs ≡ codes "no " ++ ys → ⊥
apart xs ys e = let z : ◌≡◌ {A = ℕ} 111 110 = ap (λ zs. get_or zs 0 0) e in omega arith

tells : (t : List ℕ) (r : Result Plan Refusal) → Answers t r → Tells t (report_in t r)
tells t (Ok p) a = record {
  accepted = λ q h. (routes_text p.blocks 0 p.routes, ap (λ (x : Plan). ok_line x ++ routes_text p.blocks 0 p.routes) (same q h));
  only_accepted = λ s. (p, a.right);
  refused = λ e h. let q = a.only (Err e) h in absurd (cc);
  only_refused = λ s. absurd (apart _ s.0 s.1);
}
  where
    same : (q : Plan) → Accepted t q → p ≡ q
    same q h = let e = a.only (Ok q) h in cc
tells t (Err e) a = record {
  accepted = λ p h. let q = a.only (Ok p) h in absurd (cc);
  only_accepted = λ s. absurd (apart s.0 _ (sym s.1));
  refused = λ f h. (reason_text t e ++ line_end, ap (λ (x : Refusal). no_line x ++ (reason_text t e ++ line_end)) (same f h));
  only_refused = λ s. (e, a.right);
}
  where
    same : (f : Refusal) → Refused t f → e ≡ f
    same f h = let q = a.only (Err f) h in cc

reports : (t text : List ℕ) (r : Result Plan Refusal) → text ≡ report_in t r → Answers t r → Reports t text (is_ok r)
reports t text r e a = record {
  value = e ∙ ap (report_in t) a.value;
  verdict = ap is_ok a.value;
  tells = subst (λ x. Tells t x) (sym e) (tells t r a);
}

pub reported : (t text : List ℕ) (found : Result Sheet Refusal) → text ≡ report_in t (plan_in found) → Answers t (plan_in found) → Reports t text (is_ok found)
reported t text (Ok s) e a = reports t text (Ok (plan_of s)) e a
reported t text (Err x) e a = reports t text (Err x) e a
