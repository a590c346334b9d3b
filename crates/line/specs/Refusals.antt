-- The number and the place of a refusal. Assumes nothing.
use Rattle.std.specs.Prelude.{ℕ}
use Rattle.line.specs.declared.refusal.Full.{Full}
use Rattle.line.specs.declared.refusal.Full.TheVariants.{NoRoom}

abbrev pub number_of : Full → ℕ
number_of NoRoom = 45

-- 0 names no place: a full line is about none
abbrev pub place_of : Full → ℕ
place_of NoRoom = 0
