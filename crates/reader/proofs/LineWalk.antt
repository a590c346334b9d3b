-- A text read line by line. Assumes nothing.
use Rattle.std.proofs.Common.{◌≡◌, ℕ, suc, ◌+◌, ◌<◌, false, ltb, List, [], ◌∷◌, length, Some, None, Ok, Err, Option, sym, refl, ap, ◌∙◌, inl, inr, arith}
use Rattle.std.proofs.lemmas.List.{nil_from_length}
use Rattle.std.proofs.lemmas.Bool.{cases_Bool, ne_eqb, cond-true, cond-false, true≢false}
use Rattle.network.specs.Drawing.{Declared}
use Rattle.reader.specs.declared.refusal.Refusal.{Refusal}
use Rattle.reader.specs.declared.refusal.Refusal.TheVariants.{Form}
use Rattle.reader.specs.Words.{pieces, cut}
use Rattle.reader.specs.Reads.{Declaration, block, route, within, declare, line_says, and_then, lines_declare}
use Rattle.reader.specs.Views.{keep, said_route, told, route_declared}
use Rattle.reader.proofs.Cuts.{pieces_whole, cut_some, cut_none, no_more, some_piece}

-- a line that is not the last piece has a line end
ended : (d : Declared) (n : ℕ) (l : List ℕ) (ls : List (List ℕ)) → no_more ls ≡ false → lines_declare d n (l ∷ ls) ≡ and_then (declare d n (line_says n l)) (λ e. lines_declare e (suc n) ls)
ended d n l [] e = absurd (true≢false e)
ended d n l (m ∷ ls) e = refl

module _ (d : Declared) (n : ℕ) (xs : List ℕ) where
  -- what the lines declare by the first of them, the line p before the lines q
  first : (p q : List ℕ) → Some (p, q) ≡ cut 10 xs → lines_declare d n (pieces 10 xs) ≡ and_then (declare d n (line_says n p)) (λ e. lines_declare e (suc n) (pieces 10 q))
  first p q h = ap (lines_declare d n) (cut_some 10 xs p q h) ∙ ended d n p (pieces 10 q) (some_piece 10 q)

  pub line_read : (p q : List ℕ) (e : Declared) → Some (p, q) ≡ cut 10 xs → Ok e ≡ declare d n (line_says n p) → lines_declare e (n + 1) (pieces 10 q) ≡ lines_declare d n (pieces 10 xs)
  line_read p q e h k =
      let s : n + 1 ≡ suc n = omega arith in
      ap (λ i. lines_declare e i (pieces 10 q)) s ∙ sym (first p q h ∙ ap (λ r. and_then r (λ x. lines_declare x (suc n) (pieces 10 q))) (sym k))

  pub line_refused : (p q : List ℕ) (e : Refusal) → Some (p, q) ≡ cut 10 xs → Err e ≡ declare d n (line_says n p) → Err e ≡ lines_declare d n (pieces 10 xs)
  line_refused p q e h k = sym (first p q h ∙ ap (λ r. and_then r (λ x. lines_declare x (suc n) (pieces 10 q))) (sym k))

  pub no_line_end : 0 < length xs → None ≡ cut 10 xs → Err (Form n) ≡ lines_declare d n (pieces 10 xs)
  no_line_end s h = sym (ap (lines_declare d n) (pieces_whole 10 xs (cut_none 10 xs h)) ∙ cond-false _ _ _ (ne_eqb (length xs) 0 (λ e. omega arith)))

  pub all_lines : length xs ≡ 0 → Ok d ≡ lines_declare d n (pieces 10 xs)
  all_lines e = sym (ap (λ ys. lines_declare d n (pieces 10 ys)) (nil_from_length xs e))

-- a route of which too many numbers were read is over the limit
kept_route : (d : Declared) (n : ℕ) (bs : List ℕ) → route_declared d n (keep 24 bs) ≡ declare d n (Some (route bs))
kept_route d n bs =
    elim (cases_Bool (ltb 24 (length bs))) [
      | inl e ↦ ap (route_declared d n) (cond-true _ _ _ e) ∙ sym (ap (within n) (cond-true _ _ _ e))
      | inr e ↦ ap (route_declared d n) (cond-false _ _ _ e)
    ]

pub route_told : (d : Declared) (n : ℕ) (o : Option Declaration) (k : Option (List ℕ)) → Some (said_route k) ≡ told o → route_declared d n k ≡ declare d n o
route_told d n None k e = cc
route_told d n (Some (block b)) k e = cc
route_told d n (Some (route bs)) k e = let q : k ≡ keep 24 bs = cc in ap (route_declared d n) q ∙ kept_route d n bs
