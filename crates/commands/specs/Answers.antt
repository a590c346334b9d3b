-- The text of an answer, byte by byte. Assumes nothing.
use Rattle.std.specs.Prelude.{ℕ, List, [], ◌∷◌, ◌++◌, codes, decimal}
use Rattle.commands.specs.declared.answer.Answer.{Answer}
use Rattle.commands.specs.declared.answer.Answer.TheVariants.{Done, Refused, Occupied, Cleared, Quiet}

-- a word, and the numbers behind it in decimal digits, on a line of its own
abbrev pub answer_text : Answer → List ℕ
answer_text (Done n) = codes "ok " ++ (decimal n ++ 10 ∷ [])
answer_text (Refused n p) = codes "no " ++ (decimal n ++ (codes " " ++ (decimal p ++ 10 ∷ [])))
answer_text (Occupied b) = codes "occ " ++ (decimal b ++ 10 ∷ [])
answer_text (Cleared b) = codes "clr " ++ (decimal b ++ 10 ∷ [])
answer_text Quiet = codes "quiet" ++ 10 ∷ []
