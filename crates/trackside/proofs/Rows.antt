-- A row filled place by place with what a function gives. Assumes nothing.
use Rattle.std.proofs.Common.{◌≡◌, ℕ, ◌+◌, ◌<◌, ◌≤◌, List, [], ◌∷◌, ◌++◌, map, length, get_or, drop, set, sym, ap, ◌∙◌, append_assoc, append-nil, zero-add}
use Rattle.std.specs.List.{range_with_len}
use Rattle.std.proofs.lemmas.List.FromFn.{length-map-range_with_len, map-range_with_len_more}
use Rattle.std.proofs.lemmas.List.{drop_more, drop_all, set_at}

module _ {X : Type 0} (f : ℕ → X) where
  abbrev front : ℕ → List X
  front n = map f (range_with_len 0 n)

  pub front_more : (n : ℕ) → front (n + 1) ≡ front n ++ f n ∷ []
  front_more n = map-range_with_len_more f 0 n n (zero-add n)

  -- one place more
  pub row_more : (row old : List X) (n : ℕ) (x d : X) → row ≡ front n ++ drop n old → x ≡ f n → n < length old → set row n x ≡ front (n + 1) ++ drop (n + 1) old
  row_more row old n x d e h l =
      ap (λ r. set r n x) (e ∙ ap (λ r. front n ++ r) (drop_more old n d l))
      ∙ set_at (front n) (get_or old n d) (drop (n + 1) old) x n (length-map-range_with_len f 0 n)
      ∙ ap (λ y. front n ++ y ∷ drop (n + 1) old) h
      ∙ sym (append_assoc (front n) (f n ∷ []) (drop (n + 1) old))
      ∙ ap (λ ms. ms ++ drop (n + 1) old) (sym (front_more n))

  pub row_full : (old : List X) (n : ℕ) → length old ≤ n → front n ++ drop n old ≡ front n
  row_full old n h = ap (λ r. front n ++ r) (drop_all n old h) ∙ append-nil (front n)
