-- A block has at most four ends. Assumes nothing.
use Rattle.std.proofs.Common.{◌≡◌, ℕ, zero, suc, ◌≤◌, eqb, List, [], ◌∷◌, length, drop, Some, None, refl, ap, ◌∙◌, inl, inr, arith}
use Rattle.std.proofs.lemmas.Bool.{cases_Bool, cond-true, cond-false}
use Rattle.std.proofs.lemmas.List.{at_drop_all}
use Rattle.std.specs.List.{slice_get, list_all, range_with_len}
use Rattle.network.specs.declared.track.Joint.{Joint}
use Rattle.network.specs.declared.track.Joint.TheVariants.{Outer, Joined}
use Rattle.network.specs.declared.track.Block.{Block}
use Rattle.network.specs.declared.track.Block.TheVariants.{Plain, Point, Crossing}
use Rattle.network.specs.Track.{ends_of}
use Rattle.network.specs.Joints.{joint_exists, all_exist, passes, far_end, towards_from, mutual_at, all_mutual}
use Rattle.network.proofs.BlockRules.{clash, same_some}

pub ends_exist : (bs : List Block) (x : Block) → list_all (passes (joint_exists bs) x) (range_with_len 0 4) ≡ all_exist bs x
ends_exist bs (Plain a b) = refl
ends_exist bs (Point a b c) = refl
ends_exist bs (Crossing a b c d) = refl

pub ends_mutual : (bs : List Block) (n : ℕ) (x : Block) → list_all (λ e. passes (mutual_at bs n x e) x e) (range_with_len 0 4) ≡ all_mutual bs n x
ends_mutual bs n (Plain a b) = refl
ends_mutual bs n (Point a b c) = refl
ends_mutual bs n (Crossing a b c d) = refl

-- the first end that leads to block c, from the i-th on
pub far_some : (js : List Joint) (i n c f : ℕ) → far_end c (slice_get js i) ≡ Some f → towards_from n (drop i js) c ≡ Some (n, f)
far_some [] i n c f h = absurd (clash refl h)
far_some (Outer ∷ js) zero n c f h = absurd (clash refl h)
far_some (Joined d g ∷ js) zero n c f h = elim (cases_Bool (eqb d c)) [
  | inl e ↦ cond-true _ _ _ e ∙ ap (λ m. Some (n, m)) (same_some (cond-true _ _ _ e) h)
  | inr e ↦ absurd (clash (cond-false _ _ _ e) h)
]
far_some (j ∷ js) (suc i) n c f h = far_some js i n c f h

pub far_none : (js : List Joint) (i n c : ℕ) → far_end c (slice_get js i) ≡ None → towards_from n (drop i js) c ≡ towards_from (suc n) (drop (suc i) js) c
far_none [] zero n c h = refl
far_none [] (suc i) n c h = refl
far_none (Outer ∷ js) zero n c h = refl
far_none (Joined d g ∷ js) zero n c h = elim (cases_Bool (eqb d c)) [
  | inl e ↦ absurd (clash h (cond-true _ _ _ e))
  | inr e ↦ cond-false _ _ _ e
]
far_none (j ∷ js) (suc i) n c h = far_none js i n c h

pub ends_few : (x : Block) → length (ends_of x) ≤ 4
ends_few (Plain a b) = omega arith
ends_few (Point a b c) = omega arith
ends_few (Crossing a b c d) = omega arith

pub past_ends : {Y : Type 0} (F : List Joint → Y) (x : Block) (i : ℕ) → 4 ≤ i → F (drop i (ends_of x)) ≡ F []
past_ends F x i h = at_drop_all F (ends_of x) i (omega (arith, ends_few x))
