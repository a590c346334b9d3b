-- Worked cases of sheets. Assumes nothing.
use Rattle.std.specs.Prelude.{ℕ, List, [], ◌∷◌, ◌++◌, length, Ok, Err, codes, Result}
use Rattle.network.specs.Judge.{Plan}
use Rattle.reader.specs.declared.refusal.Refusal.{Refusal}
use Rattle.reader.specs.Reads.{read}
use Rattle.reader.specs.Refusals.{number_of, line_of}

-- lines of text, each with its line end
abbrev pub text : List (List ℕ) → List ℕ
text [] = []
text (l ∷ ls) = l ++ 10 ∷ text ls

-- a junction: two lines of track and a crossing, with four routes; the line of its third block and of its first route can be changed
abbrev pub junction : List ℕ → List ℕ → List ℕ
junction third route =
    text (codes "plain - 1.0" ∷ codes "point 0.1 2.0 3.0" ∷ third ∷ codes "crossing 1.2 4.0 5.0 6.0" ∷ codes "plain 3.1 -" ∷ codes "plain 3.2 -" ∷ codes "plain 3.3 -" ∷ route ∷ codes "route 0 1 3 4" ∷ codes "route 5 3 6" ∷ codes "route 4 3 1 0" ∷ [])

-- what is answered: blocks and routes of an accepted sheet, or a refusal's number and line
pub data Answer : Type 0 where
  accepted : ℕ → ℕ → Answer
  refused : ℕ → ℕ → Answer

abbrev pub answer_of : Result Plan Refusal → Answer
answer_of (Ok p) = accepted (length p.blocks) (length p.routes)
answer_of (Err e) = refused (number_of e) (line_of e)

abbrev pub sheet_answer : List ℕ → Answer
sheet_answer t = answer_of (read t)
