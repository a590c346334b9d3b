-- The lines of a text. Assumes nothing.
use Rattle.std.specs.Prelude.{ℕ, ◌+◌, cond, List, [], ◌∷◌, length, take, drop, Some, None, Option, ◌==◌}
use Rattle.reader.specs.Words.{before, onto}
use Rattle.commands.specs.declared.lines.Line.{Line}

-- a line without its line end, and what follows
pub record Split : Type 0 where
  pub line : List ℕ
  pub rest : List ℕ

-- what a line that was read holds
abbrev pub split : Option Line → Option Split
split None = None
split (Some l) = Some (record { line = l.text.now; rest = l.rest.now })

-- the first line of a text, up to its line end or to the end of the text
abbrev pub split_line : List ℕ → Option Split
split_line t = cond (length t == 0) None (Some (record { line = take (before 10 t) t; rest = drop (before 10 t + 1) t }))

-- all lines of a text, without their line ends; the last may lack its line end, and nothing stands behind the last
abbrev pub lines_of : List ℕ → List (List ℕ)
lines_of [] = []
lines_of (x ∷ xs) = cond (x == 10) ([] ∷ lines_of xs) (onto x (lines_of xs))

-- the first line and those of what follows
abbrev pub lines_in : Option Split → List (List ℕ)
lines_in None = []
lines_in (Some s) = s.line ∷ lines_of s.rest
