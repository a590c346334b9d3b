-- What one more and one fewer do to a ring. Assumes nothing.
use Rattle.std.proofs.Common.{◌≡◌, ℕ, suc, ◌+◌, ◌-◌, ◌<◌, ◌≤◌, min, ltb, List, [], ◌∷◌, ◌++◌, length, get_or, take, drop, set, sym, ap, ◌∙◌, arith, length-append, length-drop, length-take}
use lib.Seq.{take-set-lt}
use Rattle.std.proofs.lemmas.List.{drop-set-add, take-set-le, drop-set-lt, set-append_left, set-append_right, take_more_set, drop_more, take_more, take-append-le, append-nil, append_assoc, drop_all, take_all}
use Rattle.std.proofs.lemmas.Bool.{cond_both, ltb-true, ltb-false}
use Rattle.line.specs.Rings.{in_ring, back_of, front_of}

module _ {T : Type 0} where
  -- the ring, written out from the place f on
  abbrev turned : List T → ℕ → List T
  turned xs f = drop f xs ++ take f xs

  length_turned : (xs : List T) (f : ℕ) → length (turned xs f) ≡ length xs
  length_turned xs f = simp (length-append, length-drop, length-take) (omega arith)

  pub length_in_ring : (xs : List T) (f n : ℕ) → length (in_ring xs f n) ≡ min n (length xs)
  length_in_ring xs f n = simp (length-take, length-append, length-drop) (omega arith)

  -- from a place behind the last on, the ring is the list
  from_behind : (xs : List T) (f : ℕ) → length xs ≤ f → turned xs f ≡ xs
  from_behind xs f h =
      let a = drop_all f xs h in
      let b = take_all f xs h in
      λ i. a i ++ b i

  -- the next item goes before the turn, or past it
  put_before : (xs : List T) (f n : ℕ) (x : T) → f ≤ length xs → n < length xs - f → in_ring (set xs (f + n) x) f (n + 1) ≡ in_ring xs f n ++ x ∷ []
  put_before xs f n x h k =
      let a = drop-set-add f xs n x in
      let b = take-set-le f xs (f + n) x (omega arith) in
      let in-front : n < length (drop f xs) = simp length-drop (omega arith) in
      let d = set-append_left (drop f xs) (take f xs) n x in-front in
      let e = take_more_set (turned xs f) n x (omega (arith, length_turned xs f)) in
      ap (λ l. take (n + 1) l) ((λ i. a i ++ b i) ∙ sym d) ∙ e

  put_past : (xs : List T) (f n : ℕ) (x : T) → f ≤ length xs → length xs - f ≤ n → n < length xs → in_ring (set xs (n - (length xs - f)) x) f (n + 1) ≡ in_ring xs f n ++ x ∷ []
  put_past xs f n x h k l =
      let a = drop-set-lt f xs (n - (length xs - f)) x (omega arith) in
      let b = take-set-lt f xs (n - (length xs - f)) x (omega arith) in
      let d = set-append_right (drop f xs) (take f xs) (length xs - f) n x (length-drop f xs) k in
      let e = take_more_set (turned xs f) n x (omega (arith, length_turned xs f)) in
      ap (λ l. take (n + 1) l) ((λ i. a i ++ b i) ∙ sym d) ∙ e

  pub put_at : (xs : List T) (f n i : ℕ) (x : T) → f ≤ length xs → n < length xs → i ≡ back_of (length xs) f n → in_ring (set xs i x) f (n + 1) ≡ in_ring xs f n ++ x ∷ []
  put_at xs f n i x h l e =
      ap (λ j. in_ring (set xs j x) f (n + 1)) e
      ∙ cond_both (ltb n (length xs - f)) (f + n) (n - (length xs - f)) (λ j. in_ring (set xs j x) f (n + 1) ≡ in_ring xs f n ++ x ∷ []) (λ t. put_before xs f n x h (ltb-true _ _ t)) (λ t. put_past xs f n x h (ltb-false _ _ t) l)

  -- the oldest goes, and the ring is written out from the place behind it
  leaves : (xs : List T) (f m : ℕ) (d : T) → f < length xs → m < length xs → take (suc m) (turned xs f) ≡ get_or xs f d ∷ take m (turned xs (f + 1))
  leaves xs f m d h k =
      let long : m ≤ length (drop (f + 1) xs ++ take f xs) = simp (length-append, length-drop, length-take) (omega arith) in
      let a = drop_more xs f d h in
      let b = take_more xs f d h in
      let e = take-append-le m (drop (f + 1) xs ++ take f xs) (get_or xs f d ∷ []) long in
      ap (λ l. take (suc m) (l ++ take f xs)) a
      ∙ ap (λ l. get_or xs f d ∷ l) (sym (ap (λ l. take m (drop (f + 1) xs ++ l)) b ∙ ap (λ l. take m l) (sym (append_assoc (drop (f + 1) xs) (take f xs) (get_or xs f d ∷ []))) ∙ e))

  take_before : (xs : List T) (f n : ℕ) (d : T) → f < length xs → 0 < n → n ≤ length xs → in_ring xs f n ≡ get_or xs f d ∷ in_ring xs (f + 1) (n - 1)
  take_before xs f n d h k l =
      let e : n ≡ suc (n - 1) = omega arith in
      ap (λ i. in_ring xs f i) e ∙ leaves xs f (n - 1) d h (omega arith)

  -- behind the last place the ring goes on at its first
  take_past : (xs : List T) (f n : ℕ) (d : T) → length xs ≤ f → 0 < n → n ≤ length xs → in_ring xs f n ≡ get_or xs 0 d ∷ in_ring xs (0 + 1) (n - 1)
  take_past xs f n d h k l =
      ap (λ l. take n l) (from_behind xs f h ∙ sym (append-nil xs)) ∙ take_before xs 0 n d (omega arith) k l

  pub take_at : (xs : List T) (f n i : ℕ) (d : T) → 0 < n → n ≤ length xs → i ≡ front_of (length xs) f → in_ring xs f n ≡ get_or xs i d ∷ in_ring xs (i + 1) (n - 1)
  take_at xs f n i d m l e =
      cond_both (ltb f (length xs)) f 0 (λ j. in_ring xs f n ≡ get_or xs j d ∷ in_ring xs (j + 1) (n - 1)) (λ t. take_before xs f n d (omega (arith, ltb-true _ _ t)) m l) (λ t. take_past xs f n d (ltb-false _ _ t) m l)
      ∙ ap (λ j. get_or xs j d ∷ in_ring xs (j + 1) (n - 1)) (sym e)
