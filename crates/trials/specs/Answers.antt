-- The words that say what a trial comes to. Assumes nothing.
use Rattle.std.specs.Prelude.{ℕ, List, ◌++◌, length, Ok, Err, codes, decimal, Result}
use Rattle.network.specs.Judge.{Plan}
use Rattle.reader.specs.declared.refusal.Refusal.{Refusal}
use Rattle.reader.specs.Refusals.{number_of, line_of}

-- how many blocks and routes a plan has, or the number and the line of a refusal
abbrev pub words_of : Result Plan Refusal → List ℕ
words_of (Ok p) = codes "ok " ++ (decimal (length p.blocks) ++ (codes " " ++ decimal (length p.routes)))
words_of (Err e) = codes "no " ++ (decimal (number_of e) ++ (codes " " ++ decimal (line_of e)))
