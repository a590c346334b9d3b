-- What a frozen picture shows. Assumes nothing.
use Rattle.std.specs.Prelude.{◌≡◌, ℕ, Bool, false, List, [], map, length, Some, None, Option}
use Rattle.std.specs.List.{range_with_len, slice_get}
use Rattle.network.specs.declared.track.Kind.{Kind}
use Rattle.network.specs.declared.track.Kind.TheVariants.{Plain, Point, Crossing}
use Rattle.network.specs.declared.track.Position.{Position}
use Rattle.network.specs.declared.track.Position.TheVariants.{Left}
use Rattle.network.specs.declared.track.Joint.{Joint}
use Rattle.network.specs.declared.track.Joint.TheVariants.{Outer}
use Rattle.network.specs.declared.track.Block.{Block}
use Rattle.network.specs.declared.track.Block.TheVariants.{Plain as PlainBlock, Point as PointBlock, Crossing as CrossingBlock}
use Rattle.network.specs.Track.{kind_of, ends_of}
use Rattle.trackside.specs.declared.picture.Glimpse.{Glimpse}
use Rattle.trackside.specs.declared.picture.Picture.{Picture}
use Rattle.table.specs.Tables.{items_of}
use Rattle.trackside.specs.Ground.{Ground, lamp_of, shows_green, lamp_end_of}
use Rattle.trackside.specs.Plants.{joint_or, lies_if, green_if}

abbrev pub glimpses_of : Picture → List Glimpse
glimpses_of p = items_of p.glimpses

abbrev pub kind_seen : Option Glimpse → Option Kind
kind_seen None = None
kind_seen (Some x) = Some (kind_of x.block)

abbrev pub joint_seen : Option Glimpse → ℕ → Joint
joint_seen None e = Outer
joint_seen (Some x) e = joint_or (slice_get (ends_of x.block) e)

abbrev pub lies_seen : Option Glimpse → Position
lies_seen None = Left
lies_seen (Some x) = lies_if (Some (kind_of x.block)) x.position

abbrev pub lamp_seen : Option Glimpse → Option ℕ
lamp_seen o = lamp_end_of (kind_seen o) (joint_seen o 0) (joint_seen o 1)

abbrev pub light_seen : Option Glimpse → Bool
light_seen None = false
light_seen (Some x) = shows_green x.lamp

abbrev pub green_seen : Option Glimpse → Bool
green_seen o = green_if (lamp_seen o) (light_seen o)

abbrev pub occupied_seen : Option Glimpse → Bool
occupied_seen None = false
occupied_seen (Some x) = x.occupied

-- a ground of glimpses, without trains
abbrev pub seen_ground : List Glimpse → Ground
seen_ground xs = record {
  count = length xs;
  kind = λ b. kind_seen (slice_get xs b);
  joint = λ b e. joint_seen (slice_get xs b) e;
  lies = λ b. lies_seen (slice_get xs b);
  green = λ b. green_seen (slice_get xs b);
  occupied = λ b. occupied_seen (slice_get xs b);
  trains = [];
}

-- the meaning of a picture: the answers copied
abbrev pub picture_ground : Picture → Ground
picture_ground p = seen_ground (glimpses_of p)

-- a block with the joints that are seen at its ends
abbrev pub block_from : Option Kind → Joint → Joint → Joint → Joint → Block
block_from None a b c d = PlainBlock Outer Outer
block_from (Some Plain) a b c d = PlainBlock a b
block_from (Some Point) a b c d = PointBlock a b c
block_from (Some Crossing) a b c d = CrossingBlock a b c d

abbrev pub block_seen : Ground → ℕ → Block
block_seen g b = block_from (g.kind b) (g.joint b 0) (g.joint b 1) (g.joint b 2) (g.joint b 3)

abbrev pub glimpse_of : Ground → ℕ → Glimpse
glimpse_of g b = record { block = block_seen g b; position = g.lies b; lamp = lamp_of (g.green b); occupied = g.occupied b }

-- what is seen of the first n blocks
abbrev pub seen_of : Ground → ℕ → List Glimpse
seen_of g n = map (glimpse_of g) (range_with_len 0 n)

-- what the ground p answers to every look is what the ground g answers
pub record Shows (p g : Ground) : Type 0 where
  pub count : p.count ≡ g.count
  pub kind : (b : ℕ) → p.kind b ≡ g.kind b
  pub joint : (b e : ℕ) → p.joint b e ≡ g.joint b e
  pub lies : (b : ℕ) → p.lies b ≡ g.lies b
  pub green : (b : ℕ) → p.green b ≡ g.green b
  pub occupied : (b : ℕ) → p.occupied b ≡ g.occupied b
