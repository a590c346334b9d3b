-- Whether a trackside can be worked by a sheet. Assumes nothing.
use Rattle.std.specs.Prelude.{ℕ, suc, Bool, true, false, cond, not, ◌&&◌, List, [], ◌∷◌, length, Some, None, Option, ◌==◌}
use Rattle.network.specs.declared.track.Block.{Block}
use Rattle.network.specs.declared.track.Joint.{Joint}
use Rattle.network.specs.declared.track.Joint.TheVariants.{Outer, Joined}
use Rattle.network.specs.declared.track.Kind.{Kind}
use Rattle.network.specs.declared.track.Kind.TheVariants.{Plain, Point, Crossing}
use Rattle.network.specs.Track.{kind_of, ends_of}
use Rattle.trackside.specs.Ground.{Ground}
use Rattle.book.specs.declared.refusal.Unfit.{Unfit}
use Rattle.book.specs.declared.refusal.Unfit.TheVariants.{BlockCount, BlockDiffers, BlockOccupied, LampGreen}

abbrev pub same_kind : Option Kind → Kind → Bool
same_kind None k = false
same_kind (Some Plain) Plain = true
same_kind (Some Plain) Point = false
same_kind (Some Plain) Crossing = false
same_kind (Some Point) Plain = false
same_kind (Some Point) Point = true
same_kind (Some Point) Crossing = false
same_kind (Some Crossing) Plain = false
same_kind (Some Crossing) Point = false
same_kind (Some Crossing) Crossing = true

abbrev pub same_joint : Joint → Joint → Bool
same_joint Outer Outer = true
same_joint Outer (Joined c f) = false
same_joint (Joined c f) Outer = false
same_joint (Joined c f) (Joined d h) = c == d && f == h

-- the ends of block b, from e on, are joined as these
abbrev pub same_joints : Ground → ℕ → ℕ → List Joint → Bool
same_joints g b e [] = true
same_joints g b e (j ∷ js) = same_joint (g.joint b e) j && same_joints g b (suc e) js

-- block b of the trackside is of the same kind as the block x of the sheet, and joined alike
abbrev pub built_alike : Ground → ℕ → Block → Bool
built_alike g b x = same_kind (g.kind b) (kind_of x) && same_joints g b 0 (ends_of x)

abbrev pub unless : Bool → Unfit → Option Unfit
unless true u = None
unless false u = Some u

-- what is wrong with block b, which the sheet has as x
abbrev pub differs : Ground → ℕ → Block → Option Unfit
differs g b x = unless (built_alike g b x) (BlockDiffers b)

abbrev pub occupied : Ground → ℕ → Option Unfit
occupied g b = unless (not (g.occupied b)) (BlockOccupied b)

abbrev pub lit : Ground → ℕ → Option Unfit
lit g b = unless (not (g.green b)) (LampGreen b)

abbrev pub or_else : Option Unfit → Option Unfit → Option Unfit
or_else None next = next
or_else (Some u) next = Some u

-- what a check says of the first block that fails it, of blocks that are numbered from b on
abbrev pub first_unfit : (ℕ → Block → Option Unfit) → ℕ → List Block → Option Unfit
first_unfit says b [] = None
first_unfit says b (x ∷ xs) = or_else (says b x) (first_unfit says (suc b) xs)

-- as many blocks as the sheet has; then, each over all blocks before the next: built alike, not occupied, no lamp green
abbrev pub unfit_for : Ground → List Block → Option Unfit
unfit_for g bs =
    cond (g.count == length bs) (or_else (first_unfit (differs g) 0 bs) (or_else (first_unfit (λ b x. occupied g b) 0 bs) (first_unfit (λ b x. lit g b) 0 bs))) (Some BlockCount)
