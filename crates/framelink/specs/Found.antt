-- What is known of a train that was found. Assumes nothing.
use Rattle.std.specs.Prelude.{◌≡◌, ℕ, suc, ◌+◌, ◌<◌, ◌≤◌, Bool, true, false, cond, List, [], ◌∷◌, length, Some, None, Option, ◌==◌, nat_lt, slice_index_or, refl}
use Rattle.std.proofs.Common.{sym, ap, subst, ◌∙◌, arith}
use Rattle.std.proofs.lemmas.Bool.{eqb-true, ltb-true, ltb-false}
use Rattle.network.specs.declared.track.Joint.{Joint}
use Rattle.network.specs.declared.track.Joint.TheVariants.{Outer, Joined}
use Rattle.trackside.specs.declared.answers.Stand.{Stand}
use Rattle.trackside.specs.Plants.{Stored, joint_at, way_at}
use Rattle.framelink.specs.declared.moving.Clearing.{Clearing}
use Rattle.framelink.specs.declared.moving.Clearing.TheVariants.{Shortens, Leaves}
use Rattle.framelink.specs.Movements.{found, first_with, enters_by, goes_from, goes_to, leaves_by, leaves_from, train_clears}
use Rattle.framelink.specs.Trains.{rear_stand}

-- the one found stands in the list, and the test gives what was found
pub record Hit {X Y : Type 0} (p : X → Option Y) (n : ℕ) (xs : List X) (d : X) (k : ℕ) (y : Y) : Type 0 where
  pub at : ℕ
  pub is : k ≡ n + at
  pub there : at < length xs
  pub gives : p (slice_index_or xs at d) ≡ Some y

module _ {X Y : Type 0} (p : X → Option Y) (d : X) where
  pub first_hit : (xs : List X) (n : ℕ) (x : ℕ × Y) → first_with p n xs ≡ Some x → Hit p n xs d x.0 x.1
  first_hit [] n x h = absurd cc
  first_hit (z ∷ zs) n x h = go (p z) refl h (λ g. first_hit zs (n + 1) x g)
    where
      go : (o : Option Y) → p z ≡ o → found o n (first_with p (n + 1) zs) ≡ Some x → (first_with p (n + 1) zs ≡ Some x → Hit p (n + 1) zs d x.0 x.1) → Hit p n (z ∷ zs) d x.0 x.1
      go None e g later =
          let r = later g in
          record { at = suc r.at; is = omega (arith, r.is); there = omega (arith, r.there); gives = r.gives }
      go (Some y) e g later =
          let same : (n, y) ≡ x = cc in
          record { at = 0; is = sym (ap (λ (q : ℕ × Y). q.0) same) ∙ omega arith; there = omega arith; gives = e ∙ ap (λ (q : ℕ × Y). Some q.1) same }

-- how a train goes to block c: by a way to an end that is joined to end f of c
pub record Goes (m : Stored) (c : ℕ) (s : Stand) (f : ℕ) : Type 0 where
  pub end : ℕ
  pub leads : way_at m s.block s.entered ≡ Some end
  pub across : joint_at m s.block end ≡ Joined c f

joined_by : (j : Joint) (c f : ℕ) → enters_by j c ≡ Some f → j ≡ Joined c f
joined_by Outer c f h = absurd cc
joined_by (Joined d g) c f h = go (d == c) refl h
  where
    go : (u : Bool) → (d == c) ≡ u → cond u (Some g) None ≡ Some f → Joined d g ≡ Joined c f
    go true e k = let same = eqb-true d c e in let end : g ≡ f = cc in (λ i. Joined (same i) (end i))
    go false e k = absurd cc

pub goes_how : (m : Stored) (c : ℕ) (s : Stand) (f : ℕ) → goes_to m c s ≡ Some f → Goes m c s f
goes_how m c s f h = go (way_at m s.block s.entered) refl h
  where
    go : (o : Option ℕ) → way_at m s.block s.entered ≡ o → goes_from m s.block o c ≡ Some f → Goes m c s f
    go None e k = absurd cc
    go (Some e) w k = record { end = e; leads = w; across = joined_by (joint_at m s.block e) c f k }

-- how a train clears block b
pub record Shorter (b : ℕ) (t : List Stand) : Type 0 where
  pub rear : (rear_stand t).block ≡ b
  pub long : 1 < length t

pub record Away (m : Stored) (b : ℕ) (t : List Stand) : Type 0 where
  pub rear : (rear_stand t).block ≡ b
  pub short : length t ≤ 1
  pub end : ℕ
  pub leads : way_at m (rear_stand t).block (rear_stand t).entered ≡ Some end
  pub out : joint_at m (rear_stand t).block end ≡ Outer

abbrev pub ClearsSo : Clearing → Stored → ℕ → List Stand → Type 0
ClearsSo Shortens m b t = Shorter b t
ClearsSo Leaves m b t = Away m b t

out_by : (j : Joint) (y : Clearing) → leaves_by j ≡ Some y → (y ≡ Leaves) × (j ≡ Outer)
out_by Outer y h = (cc, refl)
out_by (Joined d f) y h = absurd cc

module _ (m : Stored) (b : ℕ) (t : List Stand) (rear : (rear_stand t).block ≡ b) where
  away : (y : Clearing) → length t ≤ 1 → leaves_from m (rear_stand t).block (way_at m (rear_stand t).block (rear_stand t).entered) ≡ Some y → ClearsSo y m b t
  away y l h = go (way_at m (rear_stand t).block (rear_stand t).entered) refl h
    where
      go : (o : Option ℕ) → way_at m (rear_stand t).block (rear_stand t).entered ≡ o → leaves_from m (rear_stand t).block o ≡ Some y → ClearsSo y m b t
      go None w k = absurd cc
      go (Some e) w k =
          let r = out_by (joint_at m (rear_stand t).block e) y k in
          subst (λ z. ClearsSo z m b t) (sym r.0) (record { rear = rear; short = l; end = e; leads = w; out = r.1 })

  shorter : (y : Clearing) → cond (nat_lt 1 (length t)) (Some Shortens) (leaves_from m (rear_stand t).block (way_at m (rear_stand t).block (rear_stand t).entered)) ≡ Some y → ClearsSo y m b t
  shorter y h = go (nat_lt 1 (length t)) refl h
    where
      go : (u : Bool) → nat_lt 1 (length t) ≡ u → cond u (Some Shortens) (leaves_from m (rear_stand t).block (way_at m (rear_stand t).block (rear_stand t).entered)) ≡ Some y → ClearsSo y m b t
      go true e k = subst (λ z. ClearsSo z m b t) (let same : Shortens ≡ y = cc in same) (record { rear = rear; long = ltb-true 1 (length t) e })
      go false e k = away y (ltb-false 1 (length t) e) k

pub clears_how : (m : Stored) (b : ℕ) (t : List Stand) (y : Clearing) → train_clears m b t ≡ Some y → ClearsSo y m b t
clears_how m b t y h = go ((rear_stand t).block == b) refl h
  where
    go : (u : Bool) → ((rear_stand t).block == b) ≡ u → cond u (cond (nat_lt 1 (length t)) (Some Shortens) (leaves_from m (rear_stand t).block (way_at m (rear_stand t).block (rear_stand t).entered))) None ≡ Some y → ClearsSo y m b t
    go true e k = shorter m b t (eqb-true _ _ e) y k
    go false e k = absurd cc

-- a search from the first on
pub found_here : {X Y : Type 0} (p : X → Option Y) (d : X) (xs : List X) (x : ℕ × Y) → first_with p 0 xs ≡ Some x → (x.0 < length xs) × (p (slice_index_or xs x.0 d) ≡ Some x.1)
found_here p d xs x h =
    let r = first_hit p d xs 0 x h in
    let here : x.0 ≡ r.at = omega (arith, r.is) in
    (omega (arith, r.there), ap (λ k. p (slice_index_or xs k d)) here ∙ r.gives)
