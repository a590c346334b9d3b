-- A plant: blocks, points and lamps, and the ground that it makes with trains on it. Assumes nothing.
use Rattle.std.specs.Prelude.{ℕ, Bool, false, List, length, map, replicate, Some, None, Option, Ok, Err, Result, slice_index_or, slice_set}
use Rattle.std.specs.Option.{option_map}
use Rattle.std.specs.List.{slice_get}
use Rattle.network.specs.declared.track.Kind.{Kind}
use Rattle.network.specs.declared.track.Kind.TheVariants.{Plain, Point, Crossing}
use Rattle.network.specs.declared.track.Position.{Position}
use Rattle.network.specs.declared.track.Position.TheVariants.{Left}
use Rattle.network.specs.declared.track.Joint.{Joint}
use Rattle.network.specs.declared.track.Joint.TheVariants.{Outer}
use Rattle.network.specs.declared.track.Block.{Block}
use Rattle.network.specs.Joints.{joint_of}
use Rattle.network.specs.Network.{blocks_of}
use Rattle.network.specs.Track.{kind_of}
use Rattle.trackside.specs.declared.answers.Lamp.{Lamp}
use Rattle.trackside.specs.declared.answers.Stuck.{Stuck}
use Rattle.trackside.specs.declared.plant.Setting.{Setting}
use Rattle.trackside.specs.declared.plant.Plant.{Plant}
use Rattle.trackside.specs.declared.answers.Stand.{Stand}
use Rattle.trackside.specs.Ground.{Ground, shows_green, lamp_end_of, way_in, any_stands_in}

-- what a plant holds
pub record Stored : Type 0 where
  pub blocks : List Block
  pub positions : List Position
  pub green : List Bool

abbrev pub stored : Plant → Stored
stored p = record { blocks = blocks_of p.network; positions = map (λ (s : Setting). s.position) p.settings; green = map (λ (s : Setting). shows_green s.lamp) p.settings }

-- points left and lamps red
abbrev pub new_plant : List Block → Stored
new_plant bs = record { blocks = bs; positions = replicate 64 Left; green = replicate 64 false }

abbrev pub kind_at : Stored → ℕ → Option Kind
kind_at m b = option_map kind_of (slice_get m.blocks b)

abbrev pub joint_or : Option Joint → Joint
joint_or None = Outer
joint_or (Some j) = j

abbrev pub joint_at : Stored → ℕ → ℕ → Joint
joint_at m b e = joint_or (joint_of m.blocks b e)

-- only a point lies other than left
abbrev pub lies_if : Option Kind → Position → Position
lies_if None q = Left
lies_if (Some Plain) q = Left
lies_if (Some Point) q = q
lies_if (Some Crossing) q = Left

abbrev pub lies_at : Stored → ℕ → Position
lies_at m b = lies_if (kind_at m b) (slice_index_or m.positions b Left)

abbrev pub lamp_at : Stored → ℕ → Option ℕ
lamp_at m b = lamp_end_of (kind_at m b) (joint_at m b 0) (joint_at m b 1)

-- only a lamp is green
abbrev pub green_if : Option ℕ → Bool → Bool
green_if None g = false
green_if (Some e) g = g

abbrev pub green_at : Stored → ℕ → Bool
green_at m b = green_if (lamp_at m b) (slice_index_or m.green b false)

-- the end to which a way leads from end e of block b
abbrev pub way_at : Stored → ℕ → ℕ → Option ℕ
way_at m b e = way_in (kind_at m b) e (lies_at m b)

-- the ground of a plant with trains on it
abbrev pub ground_of : Stored → List (List Stand) → Ground
ground_of m ts = record {
  count = length m.blocks;
  kind = kind_at m;
  joint = joint_at m;
  lies = lies_at m;
  green = green_at m;
  occupied = any_stands_in ts;
  trains = ts;
}

abbrev pub with_position : Stored → ℕ → Position → Stored
with_position m b q = record { blocks = m.blocks; positions = slice_set m.positions b q; green = m.green }

abbrev pub with_lamp : Stored → ℕ → Bool → Stored
with_lamp m b g = record { blocks = m.blocks; positions = m.positions; green = slice_set m.green b g }

abbrev pub stuck : Stuck
stuck = record {}

abbrev pub lay_if : Option Kind → Stored → Stored → Result Unit Stuck × Stored
lay_if None m n = (Err stuck, m)
lay_if (Some Plain) m n = (Err stuck, m)
lay_if (Some Point) m n = (Ok tt, n)
lay_if (Some Crossing) m n = (Err stuck, m)

-- a point laid, where there is one
abbrev pub laid : Stored → ℕ → Position → Result Unit Stuck × Stored
laid m b q = lay_if (kind_at m b) m (with_position m b q)

abbrev pub light_if : Option ℕ → Stored → Stored → Result Unit Stuck × Stored
light_if None m n = (Err stuck, m)
light_if (Some e) m n = (Ok tt, n)

-- a lamp lit, where there is one
abbrev pub lit : Stored → ℕ → Lamp → Result Unit Stuck × Stored
lit m b l = light_if (lamp_at m b) m (with_lamp m b (shows_green l))
