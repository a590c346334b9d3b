-- The list of worked cases. Assumes nothing.
use Rattle.std.specs.Prelude.{◌≡◌, ℕ, ◌+◌, List, [], ◌∷◌, map, length, codes}
use Rattle.cases.specs.Frames.{frames, FramesAnswered}
use Rattle.cases.specs.Sheets.{junction, Answer, accepted, refused, sheet_answer}

-- a text, and what is answered to it
pub record Case : Type 0 where
  pub text : List ℕ
  pub answer : Answer

abbrev pub case : List ℕ → Answer → Case
case t a = record { text = t; answer = a }

abbrev pub sheets : List Case
sheets =
    case (junction (codes "plain 1.1 -") (codes "route 0 1 2")) (accepted 7 4)
    ∷ case (junction (codes "plain 1.1 -") (codes "route 0 2")) (refused 9 8)
    ∷ case (junction (codes "plain 1.1 -") (codes "route 2 1 3 4")) (refused 9 8)
    ∷ case (junction (codes "plain 1.1 -") (codes "route 0 1 0")) (refused 8 8)
    ∷ case (junction (codes "plain 1.1 -") (codes "route 0 1")) (refused 10 8)
    ∷ case (junction (codes "plain 1.2 -") (codes "route 0 1 2")) (refused 6 2)
    ∷ case [] (refused 4 0)
    ∷ []

-- each case is answered as it says, and there are n of them
pub record Cases (n : ℕ) : Type 0 where
  pub read : map (λ (c : Case). sheet_answer c.text) sheets ≡ map (λ (c : Case). c.answer) sheets
  pub heard : FramesAnswered
  pub count : n ≡ length sheets + length frames
