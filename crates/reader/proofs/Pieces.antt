-- A text cut at a byte, and put together again. Assumes nothing.
use Rattle.std.proofs.Common.{◌≡◌, ℕ, ◌+◌, ◌<◌, true, false, eqb, List, [], ◌∷◌, ◌++◌, length, take, drop, refl, ap, ◌∙◌, inl, inr, add-one, one-add, arith}
use Rattle.std.specs.List.{flat_map, AllByRecursion as All}
use Rattle.std.proofs.ByRecursion.{All-weaker}
use Rattle.std.proofs.lemmas.List.{append-nil}
use Rattle.std.proofs.lemmas.Bool.{cases_Bool, eqb-true, eq-eqb, ne_eqb}
use Rattle.reader.specs.Words.{onto, pieces, before}

-- no byte is s
abbrev pub Lacks : ℕ → List ℕ → Type 0
Lacks s xs = All (λ x. eqb x s ≡ false) xs

-- pieces with s between them
abbrev pub together : ℕ → List (List ℕ) → List ℕ
together s [] = []
together s (p ∷ ps) = p ++ flat_map (λ w. s ∷ w) ps

pub lacks_above : (s : ℕ) (xs : List ℕ) → All (λ x. s < x) xs → Lacks s xs
lacks_above s xs h = All-weaker (λ x. s < x) (λ x. eqb x s ≡ false) (λ x l. ne_eqb x s (λ e. omega arith)) xs h

same_byte : (s : ℕ) → eqb s s ≡ true
same_byte s = eq-eqb s s refl

pub some_pieces : (s : ℕ) (xs : List ℕ) → (p : List ℕ) × (ps : List (List ℕ)) × (pieces s xs ≡ p ∷ ps)
some_pieces s [] = ([], [], refl)
some_pieces s (x ∷ xs) = elim (cases_Bool (eqb x s)) [
  | inl e ↦ ([], pieces s xs, rw e)
  | inr e ↦ let r = some_pieces s xs in (x ∷ r.0, r.1, rw (e, r.2))
]

pub pieces_together : (s : ℕ) (xs : List ℕ) → together s (pieces s xs) ≡ xs
pieces_together s [] = refl
pieces_together s (x ∷ xs) = elim (cases_Bool (eqb x s)) [
  | inl e ↦ rw e (cut (eqb-true x s e) (some_pieces s xs) (pieces_together s xs))
  | inr e ↦ rw e (kept (pieces s xs) ∙ ap (λ r. x ∷ r) (pieces_together s xs))
]
  where
    cut : x ≡ s → (p : List ℕ) × (ps : List (List ℕ)) × (pieces s xs ≡ p ∷ ps) → together s (pieces s xs) ≡ xs → together s ([] ∷ pieces s xs) ≡ x ∷ xs
    cut e (p, ps, f) h = rw (f, e) (ap (λ r. s ∷ r) (rw f at h))

    kept : (ps : List (List ℕ)) → together s (onto x ps) ≡ x ∷ together s ps
    kept [] = refl
    kept (p ∷ ps) = refl

pub pieces_lack : (s : ℕ) (xs : List ℕ) → All (Lacks s) (pieces s xs)
pieces_lack s [] = (tt, tt)
pieces_lack s (x ∷ xs) = elim (cases_Bool (eqb x s)) [
  | inl e ↦ rw e (tt, pieces_lack s xs)
  | inr e ↦ let g = more e (pieces s xs) (pieces_lack s xs) in rw e g
]
  where
    more : eqb x s ≡ false → (ps : List (List ℕ)) → All (Lacks s) ps → All (Lacks s) (onto x ps)
    more e [] h = ((e, tt), tt)
    more e (p ∷ ps) h = ((e, h.0), h.1)

pub pieces_alone : (s : ℕ) (p : List ℕ) → Lacks s p → pieces s p ≡ p ∷ []
pieces_alone s [] h = refl
pieces_alone s (x ∷ p) h = rw (h.0, pieces_alone s p h.1)

pub pieces_append : (s : ℕ) (p r : List ℕ) → Lacks s p → pieces s (p ++ s ∷ r) ≡ p ∷ pieces s r
pieces_append s [] r h = rw (same_byte s)
pieces_append s (x ∷ p) r h = rw (h.0, pieces_append s p r h.1)

-- pieces without s, put together and cut again
pub together_pieces : (s : ℕ) (p : List ℕ) (ps : List (List ℕ)) → Lacks s p → All (Lacks s) ps → pieces s (together s (p ∷ ps)) ≡ p ∷ ps
together_pieces s p [] h k = ap (pieces s) (append-nil p) ∙ pieces_alone s p h
together_pieces s p (q ∷ qs) h k = pieces_append s p (together s (q ∷ qs)) h ∙ ap (λ r. p ∷ r) (together_pieces s q qs k.0 k.1)

pub before_lacks : (s : ℕ) (p : List ℕ) → Lacks s p → before s p ≡ length p
before_lacks s [] h = refl
before_lacks s (x ∷ p) h = rw (h.0, before_lacks s p h.1, one-add)

pub before_at : (s : ℕ) (p q : List ℕ) → Lacks s p → before s (p ++ s ∷ q) ≡ length p
before_at s [] q h = rw (same_byte s)
before_at s (x ∷ p) q h = rw (h.0, before_at s p q h.1, one-add)

-- a text with s in it, at the first s
pub split_before : (s : ℕ) (w : List ℕ) → before s w < length w → w ≡ take (before s w) w ++ s ∷ drop (before s w + 1) w
split_before s [] h = absurd (omega arith)
split_before s (x ∷ w) h = elim (cases_Bool (eqb x s)) [
  | inl e ↦ rw e (ap (λ (y : ℕ). y ∷ w) (eqb-true x s e))
  | inr e ↦ let l = rw e at h in rw (e, one-add, add-one) (ap (λ r. x ∷ r) (rw add-one at (split_before s w (omega arith))))
]
