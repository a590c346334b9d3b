-- A link as it is seen from outside, and its steps. Assumes nothing.
use Rattle.std.specs.Prelude.{◌≡◌, ℕ, ◌+◌, cond, List, [], length, drop, Some, None, Ok, Err, Option, Result, nat_le}
use Rattle.std.specs.Result.{result_map_both}
use Rattle.network.specs.declared.track.Position.{Position}
use Rattle.network.specs.declared.track.Block.{Block}
use Rattle.trackside.specs.declared.answers.Lamp.{Lamp}
use Rattle.trackside.specs.declared.answers.Moved.{Moved}
use Rattle.trackside.specs.declared.answers.Moved.TheVariants.{Quiet}
use Rattle.trackside.specs.declared.answers.Stuck.{Stuck}
use Rattle.trackside.specs.declared.answers.Fault.{Fault}
use Rattle.trackside.specs.declared.answers.Stand.{Stand}
use Rattle.trackside.specs.Ground.{Ground}
use Rattle.trackside.specs.Plants.{Stored, stored, new_plant, ground_of, laid, lit}
use Rattle.framelink.specs.declared.fault.LinkFault.{LinkFault}
use Rattle.framelink.specs.declared.frame.Heard.{Heard}
use Rattle.framelink.specs.declared.frame.Change.{Change}
use Rattle.framelink.specs.declared.frame.Change.TheVariants.{Occupied, Cleared}
use Rattle.framelink.specs.declared.link.FrameLink.{FrameLink}
use Rattle.framelink.specs.Faults.{answered}
use Rattle.framelink.specs.Trains.{trains_of}
use Rattle.framelink.specs.Frames.{payload_in, past, heard_in}
use Rattle.framelink.specs.Movements.{entered, occupied_by, cleared_by}

-- the plant, the bytes that were lent, the offset of the next frame, and the trains
pub record View : Type 0 where
  pub plant : Stored
  pub bytes : List ℕ
  pub at : ℕ
  pub trains : List (List Stand)

abbrev pub view_of : FrameLink → View
view_of l = record { plant = stored l.plant; bytes = l.bytes.now; at = l.at; trains = trains_of l.trains }

abbrev pub carried : List Block → List Block
carried bs = cond (nat_le (length bs) 32) bs []

abbrev pub new_view : List Block → List ℕ → View
new_view bs xs = record { plant = new_plant (carried bs); bytes = xs; at = 0; trains = [] }

abbrev pub ground_in : View → Ground
ground_in v = ground_of v.plant v.trains

abbrev pub link_ground : FrameLink → Ground
link_ground l = ground_in (view_of l)

-- what stands behind the length field of the frame at the offset
abbrev pub payload_at : View → Result (Option (List ℕ)) LinkFault
payload_at v = payload_in (drop v.at v.bytes) v.at

-- what a payload says, if there is one
abbrev pub heard_of : Result (Option (List ℕ)) LinkFault → ℕ → ℕ → Result (Option Heard) LinkFault
heard_of (Err f) i n = Err f
heard_of (Ok None) i n = Ok None
heard_of (Ok (Some xs)) i n = result_map_both Some (λ f. f) (heard_in xs i n)

-- what the frame at the offset says, and the link behind that frame
abbrev pub heard_at : View → Result (Option Heard) LinkFault
heard_at v = heard_of (payload_at v) v.at (length v.plant.blocks)

abbrev pub gone_on : View → View
gone_on v = record { plant = v.plant; bytes = v.bytes; at = v.at + past (payload_at v); trains = v.trains }

-- the answer, the plant and the trains of a movement, in a view
abbrev pub with_yard : View → Result Moved LinkFault × Stored × List (List Stand) → Result Moved LinkFault × View
with_yard v r = (r.0, record { plant = r.1; bytes = v.bytes; at = v.at; trains = r.2 })

abbrev pub entered_in : View → ℕ → ℕ → Result Moved LinkFault × View
entered_in v c place = with_yard v (entered v.plant v.trains c place)

abbrev pub occupied_in : View → ℕ → ℕ → Result Moved LinkFault × View
occupied_in v c place = with_yard v (occupied_by v.plant v.trains c place)

abbrev pub cleared_in : View → ℕ → ℕ → Result Moved LinkFault × View
cleared_in v b place =
    let r = cleared_by v.plant v.trains b place in
    (r.0, record { plant = v.plant; bytes = v.bytes; at = v.at; trains = r.1 })

abbrev pub changed : Change → ℕ → View → ℕ → Result Moved LinkFault × View
changed Occupied b v place = occupied_in v b place
changed Cleared b v place = cleared_in v b place

abbrev pub acted : Result (Option Heard) LinkFault → View → ℕ → Result Moved LinkFault × View
acted (Err f) v place = (Err f, v)
acted (Ok None) v place = (Ok Quiet, v)
acted (Ok (Some h)) v place = changed h.change h.block v place

-- one move: the frame at the offset is skipped, and what it says is done
abbrev pub moved_by : View → Result Moved Fault × View
moved_by v = let r = acted (heard_at v) (gone_on v) v.at in (answered r.0, r.1)

abbrev pub with_plant : View → Result Unit Stuck × Stored → Result Unit Stuck × View
with_plant v r = (r.0, record { plant = r.1; bytes = v.bytes; at = v.at; trains = v.trains })

abbrev pub thrown_by : View → ℕ → Position → Result Unit Stuck × View
thrown_by v b p = with_plant v (laid v.plant b p)

abbrev pub lit_by : View → ℕ → Lamp → Result Unit Stuck × View
lit_by v b l = with_plant v (lit v.plant b l)

-- the steps of a link: nothing of the answer or of the link after it is left free
abbrev pub LinkThrows : FrameLink → ℕ → Position → Result Unit Stuck → FrameLink → Type 0
LinkThrows s b p a t = ◌≡◌ {A = Result Unit Stuck × View} (a, view_of t) (thrown_by (view_of s) b p)

abbrev pub LinkLights : FrameLink → ℕ → Lamp → Result Unit Stuck → FrameLink → Type 0
LinkLights s b l a t = ◌≡◌ {A = Result Unit Stuck × View} (a, view_of t) (lit_by (view_of s) b l)

abbrev pub LinkMoves : FrameLink → Result Moved Fault → FrameLink → Type 0
LinkMoves s m t = ◌≡◌ {A = Result Moved Fault × View} (m, view_of t) (moved_by (view_of s))
