-- What a train does when a block is said to be occupied or cleared. Assumes nothing.
use Rattle.std.specs.Prelude.{◌≡◌, ℕ, ◌+◌, Bool, cond, List, [], ◌∷◌, ◌++◌, length, drop, Some, None, Ok, Err, Option, Result, ◌==◌, nat_lt, slice_index_or, slice_set}
use Rattle.std.specs.Borrow.{Bor}
use Rattle.std.specs.Fn.{Shared, FnReturnsAt}
use Rattle.network.specs.declared.track.Joint.{Joint}
use Rattle.network.specs.declared.track.Joint.TheVariants.{Outer, Joined}
use Rattle.trackside.specs.declared.answers.Lamp.TheVariants.{Red}
use Rattle.trackside.specs.declared.answers.Moved.{Moved}
use Rattle.trackside.specs.declared.answers.Moved.TheVariants.{Enter, Forward, Clear}
use Rattle.trackside.specs.declared.answers.Stand.{Stand}
use Rattle.trackside.specs.Laws.{without}
use Rattle.trackside.specs.Plants.{Stored, joint_at, way_at, lamp_at, green_at, lit}
use Rattle.framelink.specs.declared.fault.LinkFault.{LinkFault}
use Rattle.framelink.specs.declared.fault.LinkFault.TheVariants.{NoTrain, Full}
use Rattle.framelink.specs.declared.moving.Clearing.{Clearing}
use Rattle.framelink.specs.declared.moving.Clearing.TheVariants.{Shortens, Leaves}
use Rattle.framelink.specs.declared.train.Train.{Train}
use Rattle.framelink.specs.Trains.{stands_of, front_stand, rear_stand}

-- the first of a list, counted from n, of which the test gives something, and what it gives
abbrev pub found : {Y : Type 0} → Option Y → ℕ → Option (ℕ × Y) → Option (ℕ × Y)
found None n later = later
found (Some y) n later = Some (n, y)

abbrev pub first_with : {X Y : Type 0} → (X → Option Y) → ℕ → List X → Option (ℕ × Y)
first_with p n [] = None
first_with p n (x ∷ xs) = found (p x) n (first_with p (n + 1) xs)

-- each answer of a test of trains is what p gives of the train's stands
abbrev pub TestsBy : {F X : Type 0} → Shared F (Bor Train × Unit {0}) (Option X) → F → (List Stand → Option X) → Type 0
TestsBy {X = X} g test p = (t : Train) (r : Option X) → FnReturnsAt g test t r → r ≡ p (stands_of t)

abbrev pub enters_by : Joint → ℕ → Option ℕ
enters_by Outer c = None
enters_by (Joined d f) c = cond (d == c) (Some f) None

abbrev pub goes_from : Stored → ℕ → Option ℕ → ℕ → Option ℕ
goes_from m b None c = None
goes_from m b (Some e) c = enters_by (joint_at m b e) c

-- whether a train that stands at s can go to block c, and by which end it enters
abbrev pub goes_to : Stored → ℕ → Stand → Option ℕ
goes_to m c s = goes_from m s.block (way_at m s.block s.entered) c

abbrev pub train_goes : Stored → ℕ → List Stand → Option ℕ
train_goes m c t = goes_to m c (front_stand t)

-- train k goes on to the stand s, where it has room
abbrev pub forwarded : List (List Stand) → ℕ → Stand → ℕ → Result Moved LinkFault × List (List Stand)
forwarded ts k s place =
    cond (nat_lt (length (slice_index_or ts k [])) 24) (Ok (Forward k s.block), slice_set ts k (slice_index_or ts k [] ++ s ∷ [])) (Err (Full place), ts)

-- a new train enters block c past the lamp at its end e
abbrev pub enters_past : Stored → List (List Stand) → ℕ → ℕ → ℕ → Result Moved LinkFault × Stored × List (List Stand)
enters_past m ts c e place =
    cond (nat_lt (length ts) 16) (Ok (Enter (length ts) c), (lit m c Red).1, ts ++ (record { block = c; entered = e } ∷ []) ∷ []) (Err (Full place), m, ts)

abbrev pub enters_at : Option ℕ → Bool → Stored → List (List Stand) → ℕ → ℕ → Result Moved LinkFault × Stored × List (List Stand)
enters_at None green m ts c place = (Err (NoTrain place), m, ts)
enters_at (Some e) green m ts c place = cond green (enters_past m ts c e place) (Err (NoTrain place), m, ts)

abbrev pub entered : Stored → List (List Stand) → ℕ → ℕ → Result Moved LinkFault × Stored × List (List Stand)
entered m ts c place = enters_at (lamp_at m c) (green_at m c) m ts c place

-- block c is said to be occupied: the train found goes there, or a new one enters
abbrev pub occupied_with : Option (ℕ × ℕ) → Stored → List (List Stand) → ℕ → ℕ → Result Moved LinkFault × Stored × List (List Stand)
occupied_with None m ts c place = entered m ts c place
occupied_with (Some x) m ts c place =
    let r = forwarded ts x.0 (record { block = c; entered = x.1 }) place in
    (r.0, m, r.1)

abbrev pub occupied_by : Stored → List (List Stand) → ℕ → ℕ → Result Moved LinkFault × Stored × List (List Stand)
occupied_by m ts c place = occupied_with (first_with (train_goes m c) 0 ts) m ts c place

abbrev pub leaves_by : Joint → Option Clearing
leaves_by Outer = Some Leaves
leaves_by (Joined d f) = None

abbrev pub leaves_from : Stored → ℕ → Option ℕ → Option Clearing
leaves_from m b None = None
leaves_from m b (Some e) = leaves_by (joint_at m b e)

-- how a train may clear block b: its rear is there, and it has another stand or leaves by a way to an outer end
abbrev pub train_clears : Stored → ℕ → List Stand → Option Clearing
train_clears m b t =
    cond ((rear_stand t).block == b)
    (cond (nat_lt 1 (length t)) (Some Shortens) (leaves_from m (rear_stand t).block (way_at m (rear_stand t).block (rear_stand t).entered)))
    None

abbrev pub shrunk : Clearing → List (List Stand) → ℕ → List (List Stand)
shrunk Shortens ts k = slice_set ts k (drop 1 (slice_index_or ts k []))
shrunk Leaves ts k = without ts k

abbrev pub cleared_with : Option (ℕ × Clearing) → List (List Stand) → ℕ → ℕ → Result Moved LinkFault × List (List Stand)
cleared_with None ts b place = (Err (NoTrain place), ts)
cleared_with (Some x) ts b place = (Ok (Clear x.0 b), shrunk x.1 ts x.0)

-- block b is said to be cleared
abbrev pub cleared_by : Stored → List (List Stand) → ℕ → ℕ → Result Moved LinkFault × List (List Stand)
cleared_by m ts b place = cleared_with (first_with (train_clears m b) 0 ts) ts b place
