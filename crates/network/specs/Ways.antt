-- The ways through a block. Assumes nothing.
use Rattle.std.specs.Prelude.{◌≡◌, ℕ, List, [], ◌∷◌, Some, None, Option, slice_index_or}
use Rattle.network.specs.declared.track.Kind.{Kind}
use Rattle.network.specs.declared.track.Kind.TheVariants.{Plain, Point, Crossing}
use Rattle.network.specs.declared.track.Position.{Position}
use Rattle.network.specs.declared.track.Position.TheVariants.{Left, Right}

-- where each end leads: a plain block 0-1; a point, whose toe is end 0, 0-1 when left and 0-2 when right; a crossing 0-1 and 2-3
abbrev pub ways_of : Kind → Position → List (Option ℕ)
ways_of Plain Left = Some 1 ∷ Some 0 ∷ None ∷ None ∷ []
ways_of Plain Right = Some 1 ∷ Some 0 ∷ None ∷ None ∷ []
ways_of Point Left = Some 1 ∷ Some 0 ∷ None ∷ None ∷ []
ways_of Point Right = Some 2 ∷ None ∷ Some 0 ∷ None ∷ []
ways_of Crossing Left = Some 1 ∷ Some 0 ∷ Some 3 ∷ Some 2 ∷ []
ways_of Crossing Right = Some 1 ∷ Some 0 ∷ Some 3 ∷ Some 2 ∷ []

abbrev pub way_of : Kind → ℕ → Position → Option ℕ
way_of k e p = slice_index_or (ways_of k p) e None

abbrev pub WaysLeadBack : Type 0
WaysLeadBack = (k : Kind) (p : Position) (e f : ℕ) → way_of k e p ≡ Some f → way_of k f p ≡ Some e
