-- What is seen of a block, whatever holds it. Assumes nothing.
use Rattle.std.specs.Prelude.{◌≡◌, ℕ, Bool, true, length, Some, None, Option, ◌≢◌, refl}
use Rattle.network.specs.declared.track.Kind.{Kind}
use Rattle.network.specs.declared.track.Kind.TheVariants.{Plain, Point, Crossing}
use Rattle.network.specs.declared.track.Position.{Position}
use Rattle.network.specs.declared.track.Position.TheVariants.{Left}
use Rattle.network.specs.declared.track.Block.{Block}
use Rattle.network.specs.declared.track.Block.TheVariants.{Plain as PlainBlock, Point as PointBlock, Crossing as CrossingBlock}
use Rattle.network.specs.Track.{kind_of, ends_of}
use Rattle.network.proofs.BlockRules.{is_and_not}
use Rattle.trackside.specs.Ground.{ends_count}
use Rattle.trackside.specs.Plants.{lies_if, green_if}

pub ends_many : (x : Block) → length (ends_of x) ≡ ends_count (kind_of x)
ends_many (PlainBlock a b) = refl
ends_many (PointBlock a b c) = refl
ends_many (CrossingBlock a b c d) = refl

pub green_lamp : (o : Option ℕ) (g : Bool) → green_if o g ≡ true → (e : ℕ) × (o ≡ Some e)
green_lamp None g h = absurd (is_and_not h refl)
green_lamp (Some e) g h = (e, refl)

pub only_points : (k : Option Kind) (q : Position) → (k ≢ Some Point) → lies_if k q ≡ Left
only_points None q n = refl
only_points (Some Plain) q n = refl
only_points (Some Point) q n = absurd (n refl)
only_points (Some Crossing) q n = refl
