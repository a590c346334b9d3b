-- A page filled byte by byte. Assumes nothing.
use Rattle.std.proofs.Common.{◌≡◌, ℕ, ◌+◌, ◌<◌, List, [], ◌∷◌, ◌++◌, length, get_or, drop, set, sym, ap, ◌∙◌, append_assoc}
use lib.Bits.{bit_xor}
use Rattle.std.proofs.lemmas.List.FromFn.{length-map-range_with_len}
use Rattle.std.proofs.lemmas.List.{drop_more, set_at}
use Rattle.std.proofs.lemmas.List.Sums.{fold_push}
use Rattle.trackside.specs.Ground.{Ground}
use Rattle.trackside.specs.Pages.{page_mark, marks, check_of}
use Rattle.trackside.proofs.Rows.{front_more}

module _ (g : Ground) where
  pub check_more : (check n x : ℕ) → check ≡ check_of (marks g n) → x ≡ page_mark g n → bit_xor check x ≡ check_of (marks g (n + 1))
  check_more check n x e f = (λ i. bit_xor (e i) (f i)) ∙ sym (fold_push bit_xor 0 (marks g n) (page_mark g n)) ∙ ap check_of (sym (front_more (page_mark g) n))

  -- the marks of n blocks, the check byte behind them, and what stood behind the page
  pub page_whole : (row rest page : List ℕ) (n k c : ℕ) → k ≡ n → row ≡ marks g k → c ≡ check_of (marks g k) → rest ≡ drop n page → n < length page → set (row ++ rest) n c ≡ (marks g n ++ check_of (marks g n) ∷ []) ++ drop (n + 1) page
  page_whole row rest page n k c z e f d l =
      ap (λ r. set (r ++ rest) n c) (e ∙ ap (marks g) z)
      ∙ ap (λ r. set (marks g n ++ r) n c) (d ∙ drop_more page n 0 l)
      ∙ set_at (marks g n) (get_or page n 0) (drop (n + 1) page) c n (length-map-range_with_len (page_mark g) 0 n)
      ∙ ap (λ y. marks g n ++ y ∷ drop (n + 1) page) (f ∙ ap (λ i. check_of (marks g i)) z)
      ∙ sym (append_assoc (marks g n) (check_of (marks g n) ∷ []) (drop (n + 1) page))
