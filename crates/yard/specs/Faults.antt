-- The number and the place of a fault. Assumes nothing.
use Rattle.std.specs.Prelude.{ℕ}
use Rattle.trackside.specs.declared.answers.Fault.{Fault}
use Rattle.yard.specs.declared.fault.YardFault.{YardFault}
use Rattle.yard.specs.declared.fault.YardFault.TheVariants.{NoBorder, LampRed, NoTrain, NoWay, NoRecord, NoStand, NoWayOut}

abbrev pub number_of : YardFault → ℕ
number_of (NoBorder b) = 70
number_of (LampRed b) = 71
number_of (NoTrain t) = 72
number_of (NoWay t) = 73
number_of (NoRecord b) = 74
number_of (NoStand t) = 74
number_of (NoWayOut t) = 75

-- the block or the train that the fault is about
abbrev pub place_of : YardFault → ℕ
place_of (NoBorder b) = b
place_of (LampRed b) = b
place_of (NoTrain t) = t
place_of (NoWay t) = t
place_of (NoRecord b) = b
place_of (NoStand t) = t
place_of (NoWayOut t) = t

abbrev pub fault_of : YardFault → Fault
fault_of f = record { number = number_of f; place = place_of f }
