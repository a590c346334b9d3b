-- The number and the place of each refusal. Assumes nothing.
use Rattle.std.specs.Prelude.{ℕ}
use Rattle.line.specs.declared.refusal.Full.{Full}
use Rattle.line.specs.declared.refusal.Full.TheVariants.{NoRoom}
use Rattle.trackside.specs.declared.answers.Fault.{Fault}
use Rattle.book.specs.declared.refusal.Unfit.{Unfit}
use Rattle.book.specs.declared.refusal.Unfit.TheVariants.{BlockCount, BlockDiffers, BlockOccupied as UnfitOccupied, LampGreen}
use Rattle.book.specs.declared.refusal.Refusal.{Refusal}
use Rattle.book.specs.declared.refusal.Refusal.TheVariants.{OutOfService, NoRoute, RouteNotFree, InPossession, BlockReserved, RouteNotReserved, PointLiesWrong, RouteNotFormed, BlockNotHeld, BlockOccupied, LampAlreadyGreen, StillHolds, NoBlock, RouteFree, OtherYard, NotInPossession, LineFull, UnknownPanel, LineEmpty, PointStuck, LampStayedRed, Fault as Faulty}

abbrev pub number_of : Refusal → ℕ
number_of (OutOfService BlockCount) = 40
number_of (OutOfService (BlockDiffers b)) = 41
number_of (OutOfService (UnfitOccupied b)) = 42
number_of (OutOfService (LampGreen b)) = 43
number_of (NoRoute r) = 20
number_of (RouteNotFree r) = 21
number_of (InPossession b) = 22
number_of (BlockReserved b) = 23
number_of (RouteNotReserved r) = 24
number_of (PointLiesWrong b) = 25
number_of (RouteNotFormed r) = 26
number_of (BlockNotHeld b) = 27
number_of (BlockOccupied b) = 28
number_of (LampAlreadyGreen b) = 29
number_of (StillHolds b) = 30
number_of (NoBlock b) = 31
number_of (RouteFree r) = 32
number_of (OtherYard b) = 33
number_of (NotInPossession b) = 34
number_of LineFull = 45
number_of UnknownPanel = 46
number_of LineEmpty = 47
number_of (PointStuck b) = 50
number_of (LampStayedRed b) = 51
number_of (Faulty f) = 52

-- the block or the route that the refusal is about, 0 where it is about none; a fault keeps the place that the trackside gave
abbrev pub place_of : Refusal → ℕ
place_of (OutOfService BlockCount) = 0
place_of (OutOfService (BlockDiffers b)) = b
place_of (OutOfService (UnfitOccupied b)) = b
place_of (OutOfService (LampGreen b)) = b
place_of (NoRoute r) = r
place_of (RouteNotFree r) = r
place_of (InPossession b) = b
place_of (BlockReserved b) = b
place_of (RouteNotReserved r) = r
place_of (PointLiesWrong b) = b
place_of (RouteNotFormed r) = r
place_of (BlockNotHeld b) = b
place_of (BlockOccupied b) = b
place_of (LampAlreadyGreen b) = b
place_of (StillHolds b) = b
place_of (NoBlock b) = b
place_of (RouteFree r) = r
place_of (OtherYard b) = b
place_of (NotInPossession b) = b
place_of LineFull = 0
place_of UnknownPanel = 0
place_of LineEmpty = 0
place_of (PointStuck b) = b
place_of (LampStayedRed b) = b
place_of (Faulty f) = f.place

-- what the layers below say, as refusals
abbrev pub out_of_service : Unfit → Refusal
out_of_service u = OutOfService u

abbrev pub faulty : Fault → Refusal
faulty f = Faulty f

abbrev pub line_full : Full → Refusal
line_full NoRoom = LineFull
