-- A yard as it is, and what each call makes of it. Assumes nothing.
use Rattle.std.specs.Prelude.{ℕ, ◌/◌, ◌%◌, ◌^◌, Bool, true, false, cond, List, [], ◌∷◌, length, Some, None, Ok, Err, Option, Result, ◌==◌, nat_le, nat_lt}
use Rattle.network.specs.declared.track.Block.{Block}
use Rattle.network.specs.declared.track.Joint.{Joint}
use Rattle.network.specs.declared.track.Joint.TheVariants.{Outer, Joined}
use Rattle.network.specs.declared.track.Kind.{Kind}
use Rattle.network.specs.declared.track.Kind.TheVariants.{Plain, Point, Crossing}
use Rattle.network.specs.declared.track.Position.{Position}
use Rattle.network.specs.declared.track.Position.TheVariants.{Left, Right}
use Rattle.trackside.specs.declared.answers.Lamp.{Lamp}
use Rattle.trackside.specs.declared.answers.Lamp.TheVariants.{Red, Green}
use Rattle.trackside.specs.declared.answers.Moved.{Moved}
use Rattle.trackside.specs.declared.answers.Moved.TheVariants.{Quiet, Enter as Entered, Forward as Forwarded, Clear as Cleared}
use Rattle.trackside.specs.declared.answers.Fault.{Fault}
use Rattle.trackside.specs.declared.answers.Stuck.{Stuck}
use Rattle.trackside.specs.declared.answers.Stand.{Stand}
use Rattle.trackside.specs.Ground.{Ground}
use Rattle.trackside.specs.Plants.{Stored, stored, new_plant, kind_at, joint_at, lies_at, lamp_at, green_at, way_at, ground_of, with_lamp, stuck, laid, lit}
use Rattle.line.specs.declared.refusal.Full.{Full}
use Rattle.line.specs.Lines.{waiting, room_of, joined_on}
use Rattle.yard.specs.declared.Yard.{Yard}
use Rattle.yard.specs.declared.fault.YardFault.{YardFault}
use Rattle.yard.specs.declared.fault.YardFault.TheVariants.{NoBorder, LampRed, NoTrain, NoWay, NoRecord, NoStand, NoWayOut}
use Rattle.yard.specs.declared.wish.Wish.{Wish}
use Rattle.yard.specs.declared.wish.Wish.TheVariants.{Enter, Forward, Clear}
use Rattle.yard.specs.Faults.{fault_of}
use Rattle.table.specs.declared.NoRoom.{NoRoom}
use Rattle.table.specs.Tables.{Kept}
use Rattle.yard.specs.Sound.{sound_on}
use Rattle.yard.specs.Trains.{stands_of, extended, shortened, front_of, rear_of}
use Rattle.yard.specs.Fleets.{Stock, stock, new_stock, trains_of, found, with_train, added, taken_out}

-- all that a yard holds: its plant, the points that are clamped and the lamps that are dead, each set as a number with a bit for
-- each block, its trains, who waits, and how many can wait
pub record View : Type 0 where
  pub plant : Stored
  pub clamped : ℕ
  pub dead : ℕ
  pub trains : Stock
  pub wishes : List Wish
  pub room : ℕ

abbrev pub view : Yard → View
view y = record {
  plant = stored y.plant.now;
  clamped = y.clamped;
  dead = y.dead;
  trains = stock y.fleet;
  wishes = waiting y.wishes;
  room = room_of y.wishes;
}

-- the trains stand on the plant, as those of each yard do
abbrev pub sound : View → Bool
sound v = sound_on (length v.plant.blocks) v.trains

abbrev pub ground_seen : View → Ground
ground_seen v = ground_of v.plant (trains_of v.trains)

abbrev pub yard_ground : Yard → Ground
yard_ground y = ground_seen (view y)

-- the blocks that a make of 64 blocks carries: all, or none where there are more
abbrev pub carried : List Block → List Block
carried bs = cond (nat_lt 64 (length bs)) [] bs

abbrev pub new_yard : List Block → List (Kept Stand) → ℕ → ℕ → ℕ → View
new_yard bs rs n c d = record { plant = new_plant (carried bs); clamped = c; dead = d; trains = new_stock rs; wishes = []; room = n }

abbrev pub with_plant : View → Stored → View
with_plant v m = record { plant = m; clamped = v.clamped; dead = v.dead; trains = v.trains; wishes = v.wishes; room = v.room }

abbrev pub with_trains : View → Stock → View
with_trains v s = record { plant = v.plant; clamped = v.clamped; dead = v.dead; trains = s; wishes = v.wishes; room = v.room }

abbrev pub with_wishes : View → List Wish → View
with_wishes v ws = record { plant = v.plant; clamped = v.clamped; dead = v.dead; trains = v.trains; wishes = ws; room = v.room }

abbrev pub joined_by : View → Result Unit Full × List Wish → Result Unit Full × View
joined_by v r = (r.0, with_wishes v r.1)

-- a wish comes to the line
abbrev pub wished : View → Wish → Result Unit Full × View
wished v w = joined_by v (joined_on v.room v.wishes w)

-- whether block b is in the set m
abbrev pub named : ℕ → ℕ → Bool
named m b = cond (nat_le 64 b) false (m / 2 ^ b % 2 == 1)

abbrev pub same_position : Position → Position → Bool
same_position Left Left = true
same_position Left Right = false
same_position Right Left = false
same_position Right Right = true

abbrev pub done_if : Bool → Result Unit Stuck
done_if true = Ok tt
done_if false = Err stuck

abbrev pub held_if : Option Kind → Bool → Result Unit Stuck
held_if None same = Err stuck
held_if (Some Plain) same = Err stuck
held_if (Some Point) same = done_if same
held_if (Some Crossing) same = Err stuck

-- what a throw of a clamped point answers: it stays as it lies
abbrev pub held : Stored → ℕ → Position → Result Unit Stuck
held m b p = held_if (kind_at m b) (same_position (lies_at m b) p)

abbrev pub told : View → Result Unit Stuck × Stored → Result Unit Stuck × View
told v r = (r.0, with_plant v r.1)

abbrev pub thrown_by : View → ℕ → Position → Result Unit Stuck × View
thrown_by v b p = cond (named v.clamped b) (held v.plant b p, v) (told v (laid v.plant b p))

-- a dead lamp that is told green stays as it is
abbrev pub lit_by : View → ℕ → Lamp → Result Unit Stuck × View
lit_by v b Red = told v (lit v.plant b Red)
lit_by v b Green = cond (named v.dead b) (done_if (green_at v.plant b), v) (told v (lit v.plant b Green))

-- a train enters block b, and the lamp there turns red: by the number that it has, if a record was free
abbrev pub entered_by : Option ℕ × Stock → View → ℕ → Result Moved YardFault × View
entered_by (None, s) v b = (Err (NoRecord b), v)
entered_by (Some t, s) v b = (Ok (Entered t b), with_plant (with_trains v s) (with_lamp v.plant b false))

-- by the end at which a lamp stands, and whether it is green
abbrev pub entered_if : Option ℕ → Bool → View → ℕ → Result Moved YardFault × View
entered_if None green v b = (Err (NoBorder b), v)
entered_if (Some e) false v b = (Err (LampRed b), v)
entered_if (Some e) true v b = entered_by (added v.trains (record { block = b; entered = e })) v b

abbrev pub entered : View → ℕ → Result Moved YardFault × View
entered v b = entered_if (lamp_at v.plant b) (green_at v.plant b) v b

-- a stand in the block across a joint, where that block is there
abbrev pub across : Stored → Joint → Option Stand
across m Outer = None
across m (Joined c f) = cond (nat_lt c (length m.blocks)) (Some (record { block = c; entered = f })) None

abbrev pub next_by : Stored → ℕ → Option ℕ → Option Stand
next_by m b None = None
next_by m b (Some e) = across m (joint_at m b e)

-- the stand to which a way leads on
abbrev pub next_of : Stored → Stand → Option Stand
next_of m s = next_by m s.block (way_at m s.block s.entered)

abbrev pub is_out : Joint → Bool
is_out Outer = true
is_out (Joined c f) = false

abbrev pub out_by : Stored → ℕ → Option ℕ → Bool
out_by m b None = false
out_by m b (Some e) = is_out (joint_at m b e)

-- a way leads to an outer end
abbrev pub leads_out : Stored → Stand → Bool
leads_out m s = out_by m s.block (way_at m s.block s.entered)

-- by whether the record has a place for the stand s, and what it holds then
abbrev pub forwarded_to : Stand → Result Unit NoRoom × Kept Stand → View → ℕ → Result Moved YardFault × View
forwarded_to s (Err e, k) v t = (Err (NoStand t), v)
forwarded_to s (Ok u, k) v t = (Ok (Forwarded t s.block), with_trains v (with_train v.trains t k))

-- by the stand that is next
abbrev pub forwarded_if : Option Stand → Kept Stand → View → ℕ → Result Moved YardFault × View
forwarded_if None k v t = (Err (NoWay t), v)
forwarded_if (Some s) k v t = forwarded_to s (extended k s) v t

abbrev pub forwarded_found : Option (Kept Stand) → View → ℕ → Result Moved YardFault × View
forwarded_found None v t = (Err (NoTrain t), v)
forwarded_found (Some k) v t = forwarded_if (next_of v.plant (front_of k)) k v t

abbrev pub forwarded : View → ℕ → Result Moved YardFault × View
forwarded v t = forwarded_found (found v.trains t) v t

-- the rear block of the record k is cleared: by whether the train has two stands or more, and whether a way leads out
abbrev pub cleared_if : Bool → Bool → Kept Stand → View → ℕ → Result Moved YardFault × View
cleared_if true out k v t = (Ok (Cleared t (rear_of k).block), with_trains v (with_train v.trains t (shortened k)))
cleared_if false true k v t = (Ok (Cleared t (rear_of k).block), with_trains v (taken_out v.trains t))
cleared_if false false k v t = (Err (NoWayOut t), v)

abbrev pub cleared_found : Option (Kept Stand) → View → ℕ → Result Moved YardFault × View
cleared_found None v t = (Err (NoTrain t), v)
cleared_found (Some k) v t = cleared_if (nat_le 2 (length (stands_of k))) (leads_out v.plant (rear_of k)) k v t

abbrev pub cleared : View → ℕ → Result Moved YardFault × View
cleared v t = cleared_found (found v.trains t) v t

abbrev pub granted : Wish → View → Result Moved YardFault × View
granted (Enter b) v = entered v b
granted (Forward t) v = forwarded v t
granted (Clear t) v = cleared v t

abbrev pub moved_of : Result Moved YardFault → Result Moved Fault
moved_of (Ok m) = Ok m
moved_of (Err f) = Err (fault_of f)

abbrev pub answered : Result Moved YardFault × View → Result Moved Fault × View
answered r = (moved_of r.0, r.1)

-- the oldest wish is taken, and granted or not
abbrev pub served_to : List Wish → View → Result Moved Fault × View
served_to [] v = (Ok Quiet, v)
served_to (w ∷ ws) v = answered (granted w (with_wishes v ws))

abbrev pub moved_by : View → Result Moved Fault × View
moved_by v = served_to v.wishes v
