-- The pieces of a network. Assumes nothing.
use Rattle.std.specs.Prelude.{List, [], ◌∷◌}
use Rattle.network.specs.declared.track.Kind.{Kind}
use Rattle.network.specs.declared.track.Kind.TheVariants.{Plain as PlainKind, Point as PointKind, Crossing as CrossingKind}
use Rattle.network.specs.declared.track.Joint.{Joint}
use Rattle.network.specs.declared.track.Block.{Block}
use Rattle.network.specs.declared.track.Block.TheVariants.{Plain, Point, Crossing}

abbrev pub kind_of : Block → Kind
kind_of (Plain a b) = PlainKind
kind_of (Point a b c) = PointKind
kind_of (Crossing a b c d) = CrossingKind

-- the joints at the ends of a block, in the order of the ends
abbrev pub ends_of : Block → List Joint
ends_of (Plain a b) = a ∷ b ∷ []
ends_of (Point a b c) = a ∷ b ∷ c ∷ []
ends_of (Crossing a b c d) = a ∷ b ∷ c ∷ d ∷ []
