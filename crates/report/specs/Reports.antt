-- What a report says of a sheet. Assumes nothing.
use Rattle.std.specs.Prelude.{◌≡◌, ℕ, Bool, List, ◌++◌, is_ok, Ok, Err, codes, Result}
use Rattle.network.specs.Judge.{Plan}
use Rattle.reader.specs.declared.refusal.Refusal.{Refusal}
use Rattle.reader.specs.Reads.{read}
use Rattle.reader.specs.Text.{Accepted, Refused}
use Rattle.report.specs.Texts.{ok_line, no_line, accepted_text, refused_text}

-- the report on the text t, which was read as the plan or the refusal
abbrev pub report_in : List ℕ → Result Plan Refusal → List ℕ
report_in t (Ok p) = accepted_text p
report_in t (Err e) = refused_text t e

abbrev pub report_of : List ℕ → List ℕ
report_of t = report_in t (read t)

abbrev pub Starts : List ℕ → List ℕ → Type 0
Starts front text = (rest : List ℕ) × (text ≡ front ++ rest)

-- a report begins with `ok` exactly where the sheet is accepted, and then counts its blocks and routes;
-- it begins with `no` exactly where the sheet is refused, and then gives that refusal's number and line
pub record Tells (t text : List ℕ) : Type 0 where
  pub accepted : (p : Plan) → Accepted t p → Starts (ok_line p) text
  pub only_accepted : Starts (codes "ok ") text → (p : Plan) × Accepted t p
  pub refused : (e : Refusal) → Refused t e → Starts (no_line e) text
  pub only_refused : Starts (codes "no ") text → (e : Refusal) × Refused t e

-- a report is the one that is worked out, and tells the truth
pub record Reports (t text : List ℕ) (accepted : Bool) : Type 0 where
  pub value : text ≡ report_of t
  pub verdict : accepted ≡ is_ok (read t)
  pub tells : Tells t text
