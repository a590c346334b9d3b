-- A picture shows what it was taken of. Assumes nothing.
use Rattle.std.proofs.Common.{◌≡◌, ℕ, zero, suc, ◌<◌, ◌≤◌, Bool, true, false, List, Some, None, Option, sym, refl, ap, ◌∙◌, subst, inl, inr, zero-add, arith}
use Rattle.std.proofs.lemmas.List.FromFn.{length-map-range_with_len, get_or-map-range_with_len}
use Rattle.std.proofs.lemmas.Option.{slice_get-get_or, slice_get_past}
use Rattle.std.proofs.lemmas.Bool.{cases_lt, cases_Bool}
use Rattle.std.specs.List.{slice_get}
use Rattle.network.specs.declared.track.Kind.{Kind}
use Rattle.network.specs.declared.track.Kind.TheVariants.{Plain, Point, Crossing}
use Rattle.network.specs.declared.track.Position.{Position}
use Rattle.network.specs.declared.track.Position.TheVariants.{Left}
use Rattle.network.specs.declared.track.Joint.{Joint}
use Rattle.network.specs.declared.track.Joint.TheVariants.{Outer}
use Rattle.network.specs.Track.{kind_of, ends_of}
use Rattle.network.proofs.BlockRules.{clash}
use Rattle.trackside.specs.declared.picture.Glimpse.{Glimpse}
use Rattle.trackside.specs.Ground.{Ground, lamp_of, shows_green, ends_count, lamp_end, lamp_end_of, WellMade}
use Rattle.trackside.specs.Plants.{joint_or, lies_if, green_if}
use Rattle.trackside.specs.Pictures.{kind_seen, joint_seen, lies_seen, green_seen, occupied_seen, seen_ground, block_from, glimpse_of, seen_of, Shows}

kind_from : (k : Kind) (a b c d : Joint) → kind_of (block_from (Some k) a b c d) ≡ k
kind_from Plain a b c d = refl
kind_from Point a b c d = refl
kind_from Crossing a b c d = refl

joint_from : (k : Kind) (J : ℕ → Joint) → ((e : ℕ) → ends_count k ≤ e → J e ≡ Outer) → (e : ℕ) → joint_or (slice_get (ends_of (block_from (Some k) (J 0) (J 1) (J 2) (J 3))) e) ≡ J e
joint_from Plain J n zero = refl
joint_from Plain J n (suc zero) = refl
joint_from Plain J n (suc (suc e)) = sym (n (suc (suc e)) (omega arith))
joint_from Point J n zero = refl
joint_from Point J n (suc zero) = refl
joint_from Point J n (suc (suc zero)) = refl
joint_from Point J n (suc (suc (suc e))) = sym (n (suc (suc (suc e))) (omega arith))
joint_from Crossing J n zero = refl
joint_from Crossing J n (suc zero) = refl
joint_from Crossing J n (suc (suc zero)) = refl
joint_from Crossing J n (suc (suc (suc zero))) = refl
joint_from Crossing J n (suc (suc (suc (suc e)))) = sym (n (suc (suc (suc (suc e)))) (omega arith))

lies_kept : (o : Option Kind) (q : Position) → ((o ≡ Some Point → ⊥) → q ≡ Left) → lies_if o q ≡ q
lies_kept None q n = sym (n (λ e. clash refl e))
lies_kept (Some Plain) q n = sym (n (λ e. let z : ◌≡◌ {A = ℕ} 0 1 = cc in omega arith))
lies_kept (Some Point) q n = refl
lies_kept (Some Crossing) q n = sym (n (λ e. let z : ◌≡◌ {A = ℕ} 0 1 = cc in omega arith))

green_kept : (o : Option ℕ) (x : Bool) → (x ≡ true → (e : ℕ) × (o ≡ Some e)) → green_if o x ≡ x
green_kept None true n = absurd (clash refl (n refl).1)
green_kept None false n = refl
green_kept (Some e) x n = refl

lit_again : (x : Bool) → shows_green (lamp_of x) ≡ x
lit_again true = refl
lit_again false = refl

module _ (most : ℕ) (g : Ground) (w : WellMade most g) where
  seen_here : (b : ℕ) → b < g.count → slice_get (seen_of g g.count) b ≡ Some (glimpse_of g b)
  seen_here b l =
      slice_get-get_or (seen_of g g.count) b (glimpse_of g b) (omega (arith, length-map-range_with_len (glimpse_of g) 0 g.count))
      ∙ ap Some (get_or-map-range_with_len (glimpse_of g) 0 g.count b b (glimpse_of g b) l (zero-add b))

  seen_past : (b : ℕ) → g.count ≤ b → slice_get (seen_of g g.count) b ≡ None
  seen_past b l = slice_get_past (seen_of g g.count) b (omega (arith, length-map-range_with_len (glimpse_of g) 0 g.count))

  -- what a glimpse of a block that is there says
  module _ (b : ℕ) (l : b < g.count) where
    same_kind : kind_seen (Some (glimpse_of g b)) ≡ g.kind b
    same_kind =
        let k = w.known b l in
        ap (λ o. Some (kind_of (block_from o (g.joint b 0) (g.joint b 1) (g.joint b 2) (g.joint b 3)))) k.1 ∙ ap Some (kind_from k.0 _ _ _ _) ∙ sym k.1

    same_joint : (e : ℕ) → joint_seen (Some (glimpse_of g b)) e ≡ g.joint b e
    same_joint e =
        let k = w.known b l in
        ap (λ o. joint_or (slice_get (ends_of (block_from o (g.joint b 0) (g.joint b 1) (g.joint b 2) (g.joint b 3))) e)) k.1
        ∙ joint_from k.0 (g.joint b) (λ f h. w.no_end b f k.0 k.1 h) e

    same_lies : lies_seen (Some (glimpse_of g b)) ≡ g.lies b
    same_lies = ap (λ o. lies_if o (g.lies b)) same_kind ∙ lies_kept (g.kind b) (g.lies b) (w.points b)

    same_green : green_seen (Some (glimpse_of g b)) ≡ g.green b
    same_green =
        let k = same_kind in
        let x = same_joint 0 in
        let y = same_joint 1 in
        (λ i. green_if (lamp_end_of (k i) (x i) (y i)) (lit_again (g.green b) i)) ∙ green_kept (lamp_end g b) (g.green b) (w.lamps b)

  dark_past : (b : ℕ) → g.count ≤ b → g.green b ≡ false
  dark_past b h = elim (cases_Bool (g.green b)) [ inl t ↦ absurd (clash (ap (λ o. lamp_end_of o (g.joint b 0) (g.joint b 1)) (w.unknown b h)) (w.lamps b t).1) | inr f ↦ f ]

  pub seen_shows : Shows (seen_ground (seen_of g g.count)) g
  seen_shows = record {
    count = length-map-range_with_len (glimpse_of g) 0 g.count;
    kind = λ b. elim (cases_lt b g.count) [ inl l ↦ ap kind_seen (seen_here b l) ∙ same_kind b l | inr h ↦ ap kind_seen (seen_past b h) ∙ sym (w.unknown b h) ];
    joint = λ b e. elim (cases_lt b g.count) [ inl l ↦ ap (λ o. joint_seen o e) (seen_here b l) ∙ same_joint b l e | inr h ↦ ap (λ o. joint_seen o e) (seen_past b h) ∙ sym (w.unjoined b e h) ];
    lies = λ b. elim (cases_lt b g.count) [ inl l ↦ ap lies_seen (seen_here b l) ∙ same_lies b l | inr h ↦ ap lies_seen (seen_past b h) ∙ sym (w.points b (λ e. clash (w.unknown b h) e)) ];
    green = λ b. elim (cases_lt b g.count) [ inl l ↦ ap green_seen (seen_here b l) ∙ same_green b l | inr h ↦ ap green_seen (seen_past b h) ∙ sym (dark_past b h) ];
    occupied = λ b. elim (cases_lt b g.count) [ inl l ↦ ap occupied_seen (seen_here b l) | inr h ↦ ap occupied_seen (seen_past b h) ∙ sym (w.nowhere b h) ];
  }

  pub picture_shows : (xs : List Glimpse) (n : ℕ) → n ≡ g.count → xs ≡ seen_of g n → Shows (seen_ground xs) g
  picture_shows xs n e h = subst (λ ys. Shows (seen_ground ys) g) (sym (h ∙ ap (seen_of g) e)) seen_shows
