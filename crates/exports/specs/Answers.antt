-- What other languages are told of a sheet. Assumes nothing.
use Rattle.std.specs.Prelude.{ℕ, Ok, Err, Result}
use Rattle.reader.specs.declared.refusal.Refusal.{Refusal}
use Rattle.reader.specs.Refusals.{number_of, line_of}

-- the number of the refusal, 0 where there is none
abbrev pub number_in : {A : Type 0} → Result A Refusal → ℕ
number_in (Ok p) = 0
number_in (Err e) = number_of e

-- the line that is refused, 0 where there is none or where it is the whole sheet
abbrev pub line_in : {A : Type 0} → Result A Refusal → ℕ
line_in (Ok p) = 0
line_in (Err e) = line_of e
