-- Joints between the blocks of a network, and the tests of the block rules. Assumes nothing.
use Rattle.std.specs.Prelude.{ℕ, suc, Bool, true, false, cond, not, ◌&&◌, ◌||◌, List, [], ◌∷◌, is_some, Some, None, Option, ◌==◌}
use Rattle.std.specs.List.{slice_get, list_all}
use Rattle.network.specs.declared.track.Joint.{Joint}
use Rattle.network.specs.declared.track.Joint.TheVariants.{Outer, Joined}
use Rattle.network.specs.declared.track.Block.{Block}
use Rattle.network.specs.declared.track.Block.TheVariants.{Plain, Point, Crossing}
use Rattle.network.specs.Track.{ends_of}

abbrev pub joint_in : Option Block → ℕ → Option Joint
joint_in None e = None
joint_in (Some x) e = slice_get (ends_of x) e

-- what end e of block b is, or none where there is no such block or end
abbrev pub joint_of : List Block → ℕ → ℕ → Option Joint
joint_of bs b e = joint_in (slice_get bs b) e

abbrev pub joint_exists : List Block → Joint → Bool
joint_exists bs Outer = true
joint_exists bs (Joined c f) = is_some (joint_of bs c f)

abbrev pub all_exist : List Block → Block → Bool
all_exist bs x = list_all (joint_exists bs) (ends_of x)

-- a test of a joint, where there is one
abbrev pub passes_if : (Joint → Bool) → Option Joint → Bool
passes_if f None = true
passes_if f (Some j) = f j

abbrev pub passes : (Joint → Bool) → Block → ℕ → Bool
passes f x e = passes_if f (slice_get (ends_of x) e)

abbrev pub is_outer : Joint → Bool
is_outer Outer = true
is_outer (Joined c f) = false

abbrev pub outer_ends_fit : Block → Bool
outer_ends_fit (Plain a b) = not (is_outer a && is_outer b)
outer_ends_fit (Point a b c) = not (is_outer a || (is_outer b || is_outer c))
outer_ends_fit (Crossing a b c d) = not (is_outer a || (is_outer b || (is_outer c || is_outer d)))

abbrev pub outer_of : Joint → ℕ → Option ℕ → Option ℕ
outer_of Outer e other = Some e
outer_of (Joined c f) e other = other

-- the outer end of a plain block that has one
abbrev pub outer_end : Block → Option ℕ
outer_end (Plain a b) = outer_of a 0 (outer_of b 1 None)
outer_end (Point a b c) = None
outer_end (Crossing a b c d) = None

-- the end of block c to which a joint leads
abbrev pub far_end : ℕ → Option Joint → Option ℕ
far_end c None = None
far_end c (Some Outer) = None
far_end c (Some (Joined d f)) = cond (d == c) (Some f) None

-- the first of the ends js, counted from e, that is joined to block c, and the end of c there
abbrev pub towards_from : ℕ → List Joint → ℕ → Option (ℕ × ℕ)
towards_from e [] c = None
towards_from e (Outer ∷ js) c = towards_from (suc e) js c
towards_from e (Joined d f ∷ js) c = cond (d == c) (Some (e, f)) (towards_from (suc e) js c)

abbrev pub towards : Block → ℕ → Option (ℕ × ℕ)
towards x c = towards_from 0 (ends_of x) c

abbrev pub is_joined : Option Joint → ℕ → ℕ → Bool
is_joined None b e = false
is_joined (Some Outer) b e = false
is_joined (Some (Joined c f)) b e = c == b && f == e

abbrev pub leaves_by : Option (ℕ × ℕ) → ℕ → Bool
leaves_by None e = false
leaves_by (Some o) e = o.0 == e

-- end e of block x, which has the number b: the joint j there is mutual, leads to another block, and is the first to lead there
abbrev pub mutual_at : List Block → ℕ → Block → ℕ → Joint → Bool
mutual_at bs b x e Outer = true
mutual_at bs b x e (Joined c f) = is_joined (joint_of bs c f) b e && (not (c == b) && leaves_by (towards x c) e)

abbrev pub each_mutual : List Block → ℕ → Block → ℕ → List Joint → Bool
each_mutual bs b x e [] = true
each_mutual bs b x e (j ∷ js) = mutual_at bs b x e j && each_mutual bs b x (suc e) js

abbrev pub all_mutual : List Block → ℕ → Block → Bool
all_mutual bs b x = each_mutual bs b x 0 (ends_of x)
