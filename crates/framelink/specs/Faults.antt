-- The number and the place of a fault of the link. Assumes nothing.
use Rattle.std.specs.Prelude.{ℕ, Result}
use Rattle.std.specs.Result.{result_map_both}
use Rattle.trackside.specs.declared.answers.Fault.{Fault}
use Rattle.trackside.specs.declared.answers.Moved.{Moved}
use Rattle.framelink.specs.declared.fault.LinkFault.{LinkFault}
use Rattle.framelink.specs.declared.fault.LinkFault.TheVariants.{CutShort, Length, Version, Kind, NoBlock, NoTrain, Full}

abbrev pub number_of : LinkFault → ℕ
number_of (CutShort n) = 60
number_of (Length n) = 61
number_of (Version n) = 62
number_of (Kind n) = 63
number_of (NoBlock n) = 64
number_of (NoTrain n) = 65
number_of (Full n) = 66

-- the offset of the frame's first byte
abbrev pub place_of : LinkFault → ℕ
place_of (CutShort n) = n
place_of (Length n) = n
place_of (Version n) = n
place_of (Kind n) = n
place_of (NoBlock n) = n
place_of (NoTrain n) = n
place_of (Full n) = n

abbrev pub fault_of : LinkFault → Fault
fault_of f = record { number = number_of f; place = place_of f }

-- the answer of a move, with a fault as the layer above knows it
abbrev pub answered : Result Moved LinkFault → Result Moved Fault
answered r = result_map_both (λ m. m) fault_of r
