-- What is printed of what a call answers. Assumes nothing.
use Rattle.std.specs.Prelude.{ℕ, Ok, Err, Result}
use Rattle.book.specs.declared.refusal.Refusal.{Refusal}
use Rattle.book.specs.declared.refusal.Refusal.TheVariants.{OutOfService, NoRoute, RouteNotFree, InPossession, BlockReserved, RouteNotReserved, PointLiesWrong, RouteNotFormed, BlockNotHeld, BlockOccupied, LampAlreadyGreen, StillHolds, NoBlock, RouteFree, OtherYard, NotInPossession, LineFull, UnknownPanel, LineEmpty, PointStuck, LampStayedRed, Fault as Faulty}
use Rattle.book.specs.Refusals.{number_of, place_of}
use Rattle.commands.specs.declared.answer.Answer.{Answer}
use Rattle.commands.specs.declared.answer.Answer.TheVariants.{Done, Refused, Occupied, Cleared, Quiet as QuietAnswer}
use Rattle.trackside.specs.declared.answers.Moved.{Moved}
use Rattle.trackside.specs.declared.answers.Moved.TheVariants.{Quiet, Enter, Forward, Clear}

-- the number of a refusal; of a fault that was passed up, the number that the trackside gave
abbrev pub shown_number : Refusal → ℕ
shown_number (Faulty f) = f.number
shown_number (OutOfService u) = number_of (OutOfService u)
shown_number (NoRoute r) = number_of (NoRoute r)
shown_number (RouteNotFree r) = number_of (RouteNotFree r)
shown_number (InPossession b) = number_of (InPossession b)
shown_number (BlockReserved b) = number_of (BlockReserved b)
shown_number (RouteNotReserved r) = number_of (RouteNotReserved r)
shown_number (PointLiesWrong b) = number_of (PointLiesWrong b)
shown_number (RouteNotFormed r) = number_of (RouteNotFormed r)
shown_number (BlockNotHeld b) = number_of (BlockNotHeld b)
shown_number (BlockOccupied b) = number_of (BlockOccupied b)
shown_number (LampAlreadyGreen b) = number_of (LampAlreadyGreen b)
shown_number (StillHolds b) = number_of (StillHolds b)
shown_number (NoBlock b) = number_of (NoBlock b)
shown_number (RouteFree r) = number_of (RouteFree r)
shown_number (OtherYard b) = number_of (OtherYard b)
shown_number (NotInPossession b) = number_of (NotInPossession b)
shown_number LineFull = number_of LineFull
shown_number UnknownPanel = number_of UnknownPanel
shown_number LineEmpty = number_of LineEmpty
shown_number (PointStuck b) = number_of (PointStuck b)
shown_number (LampStayedRed b) = number_of (LampStayedRed b)

abbrev pub refused_answer : Refusal → Answer
refused_answer e = Refused (shown_number e) (place_of e)

abbrev pub told : Result ℕ Refusal → Answer
told (Ok n) = Done n
told (Err e) = refused_answer e

abbrev pub seen : Result Moved Refusal → Answer
seen (Ok Quiet) = QuietAnswer
seen (Ok (Enter t b)) = Occupied b
seen (Ok (Forward t b)) = Occupied b
seen (Ok (Clear t b)) = Cleared b
seen (Err e) = refused_answer e

abbrev pub joined : Result Unit Refusal → Answer
joined (Ok u) = Done 0
joined (Err e) = refused_answer e

-- a line that is no command
abbrev pub no_command : Answer
no_command = Refused 49 0
