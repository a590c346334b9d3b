-- The first line of a text, and the lines behind it. Assumes nothing.
use Rattle.std.proofs.Common.{◌≡◌, ℕ, suc, ◌+◌, Bool, true, false, cond, not, eqb, List, [], ◌∷◌, length, take, drop, Some, Option, sym, refl, ap, ◌∙◌, arith}
use Rattle.std.proofs.lemmas.Bool.{cond-false, ne_eqb}
use Rattle.reader.specs.Words.{onto, before}
use Rattle.commands.specs.Lines.{Split, split_line, lines_of, lines_in}

-- the step over one byte; b says whether it is a line end
first_step : (b : Bool) (x n : ℕ) (xs : List ℕ) → lines_of xs ≡ take n xs ∷ lines_of (drop (n + 1) xs) → cond b ([] ∷ lines_of xs) (onto x (lines_of xs)) ≡ take (cond (not b) (1 + n) 0) (x ∷ xs) ∷ lines_of (drop (cond (not b) (1 + n) 0 + 1) (x ∷ xs))
first_step true x n xs ih = refl
first_step false x n xs ih =
    let e : 1 + n ≡ suc n = omega arith in
    let f : suc n + 1 ≡ suc (n + 1) = omega arith in
    rw (e, f) (ap (onto x) ih)

last_step : (b : Bool) (x : ℕ) → cond b ([] ∷ []) ((x ∷ []) ∷ []) ≡ take (cond (not b) 1 0) (x ∷ []) ∷ lines_of (drop (cond (not b) 1 0 + 1) (x ∷ []))
last_step true x = refl
last_step false x = refl

first_line : (x : ℕ) (xs : List ℕ) → lines_of (x ∷ xs) ≡ take (before 10 (x ∷ xs)) (x ∷ xs) ∷ lines_of (drop (before 10 (x ∷ xs) + 1) (x ∷ xs))
first_line x [] = last_step (eqb x 10) x
first_line x (y ∷ ys) = first_step (eqb x 10) x (before 10 (y ∷ ys)) (y ∷ ys) (first_line y ys)

pub lines_split : (t : List ℕ) → lines_of t ≡ lines_in (split_line t)
lines_split [] = refl
lines_split (x ∷ xs) = first_line x xs ∙ sym (ap lines_in (cond-false _ _ _ (ne_eqb (suc (length xs)) 0 (λ e. omega arith))))

-- a line and what follows it
abbrev pub pair : List ℕ → List ℕ → Option Split
pair a b = Some (record { line = a; rest = b })

-- the lines of a text, by its first line a and what follows it
pub lines_first : (t a b : List ℕ) → pair a b ≡ split_line t → lines_of t ≡ lines_in (pair a b)
lines_first t a b e = lines_split t ∙ sym (ap lines_in e)
