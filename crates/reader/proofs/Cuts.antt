-- A text cut at its first mark: the piece before it, and the pieces of what stands behind it. Assumes nothing.
use Rattle.std.proofs.Common.{◌≡◌, ℕ, suc, ◌+◌, ◌<◌, ◌≤◌, Bool, true, false, cond, not, eqb, List, [], ◌∷◌, length, take, drop, Some, None, sym, refl, ap, ◌∙◌, inl, inr, arith}
use Rattle.std.proofs.lemmas.List.{length-drop}
use Rattle.std.proofs.lemmas.Bool.{cases_lt, lt-ltb, le-ltb, cond-true, cond-false}
use Rattle.network.proofs.BlockRules.{same_some}
use Rattle.reader.specs.Words.{onto, pieces, before, cut}
use Rattle.reader.proofs.Numbers.{clash}

-- the step over one byte; b says whether it is the mark
cut_step : (b : Bool) (s x n : ℕ) (xs : List ℕ) → (n < length xs → pieces s xs ≡ take n xs ∷ pieces s (drop (n + 1) xs)) → cond (not b) (1 + n) 0 < suc (length xs) → cond b ([] ∷ pieces s xs) (onto x (pieces s xs)) ≡ take (cond (not b) (1 + n) 0) (x ∷ xs) ∷ pieces s (drop (cond (not b) (1 + n) 0 + 1) (x ∷ xs))
cut_step true s x n xs ih h = refl
cut_step false s x n xs ih h =
    let e : 1 + n ≡ suc n = omega arith in
    let f : suc n + 1 ≡ suc (n + 1) = omega arith in
    rw (e, f) (ap (onto x) (ih (omega arith)))

pub pieces_cut : (s : ℕ) (xs : List ℕ) → before s xs < length xs → pieces s xs ≡ take (before s xs) xs ∷ pieces s (drop (before s xs + 1) xs)
pieces_cut s [] h = absurd (omega arith)
pieces_cut s (x ∷ xs) h = cut_step (eqb x s) s x (before s xs) xs (pieces_cut s xs) h

whole_step : (b : Bool) (s x n : ℕ) (xs : List ℕ) → (length xs ≤ n → pieces s xs ≡ xs ∷ []) → suc (length xs) ≤ cond (not b) (1 + n) 0 → cond b ([] ∷ pieces s xs) (onto x (pieces s xs)) ≡ (x ∷ xs) ∷ []
whole_step true s x n xs ih h = absurd (omega arith)
whole_step false s x n xs ih h = ap (onto x) (ih (omega arith))

pub pieces_whole : (s : ℕ) (xs : List ℕ) → length xs ≤ before s xs → pieces s xs ≡ xs ∷ []
pieces_whole s [] h = refl
pieces_whole s (x ∷ xs) h = whole_step (eqb x s) s x (before s xs) xs (pieces_whole s xs) h

abbrev pub no_more : List (List ℕ) → Bool
no_more [] = true
no_more (p ∷ ps) = false

-- there is always a piece
some_step : (b : Bool) (x : ℕ) (ps : List (List ℕ)) → no_more (cond b ([] ∷ ps) (onto x ps)) ≡ false
some_step true x ps = refl
some_step false x [] = refl
some_step false x (p ∷ ps) = refl

pub some_piece : (s : ℕ) (xs : List ℕ) → no_more (pieces s xs) ≡ false
some_piece s [] = refl
some_piece s (x ∷ xs) = some_step (eqb x s) x (pieces s xs)

cut_is : (s : ℕ) (xs p q : List ℕ) → Some (p, q) ≡ cut s xs → (before s xs < length xs) × ◌≡◌ {A = List ℕ × List ℕ} (p, q) (take (before s xs) xs, drop (before s xs + 1) xs)
cut_is s xs p q h = elim (cases_lt (before s xs) (length xs)) [
  | inl l ↦ (l, same_some refl (h ∙ cond-true _ _ _ (lt-ltb _ _ l)))
  | inr l ↦ absurd (clash (sym (h ∙ cond-false _ _ _ (le-ltb _ _ l))))
]

pub cut_some : (s : ℕ) (xs p q : List ℕ) → Some (p, q) ≡ cut s xs → pieces s xs ≡ p ∷ pieces s q
cut_some s xs p q h = let c = cut_is s xs p q h in pieces_cut s xs c.0 ∙ sym (ap (λ (r : List ℕ × List ℕ). r.0 ∷ pieces s r.1) c.1)

-- what stands behind a mark is shorter
pub cut_shorter : (s : ℕ) (xs p q : List ℕ) → Some (p, q) ≡ cut s xs → length q < length xs
cut_shorter s xs p q h =
    let c = cut_is s xs p q h in
    let f : length q ≡ length (drop (before s xs + 1) xs) = ap (λ (r : List ℕ × List ℕ). length r.1) c.1 in
    omega (arith, f, c.0, length-drop (before s xs + 1) xs)

pub cut_none : (s : ℕ) (xs : List ℕ) → None ≡ cut s xs → length xs ≤ before s xs
cut_none s xs h = elim (cases_lt (before s xs) (length xs)) [ inl l ↦ absurd (clash (h ∙ cond-true _ _ _ (lt-ltb _ _ l))) | inr l ↦ l ]
