-- Rows of the book beside columns of the ledger.
use Rattle.std.proofs.Common.{◌≡◌, ℕ, zero, suc, ◌<◌, Bool, true, false, cond, ◌||◌, eqb, List, [], ◌∷◌, length, get_or, set, Option, sym, refl, ap, ◌∙◌, inl, inr, arith}
use Rattle.std.proofs.lemmas.List.{get_or-set_same, get_or-set_other}
use Rattle.std.proofs.lemmas.Bool.{cases_eq, eq-eqb, ne_eqb, eqb-true, or_cases, or_left, or_right, cond-true, cond-false}
use Rattle.network.specs.declared.route.Step.{Step}
use Rattle.network.specs.Rules.{step_at}
use Rattle.book.specs.declared.Book.{Book}
use Rattle.book.specs.Books.{holder_of, held_for, with_entry, with_holders}
use Rattle.book.proofs.Changed.{as_many, holder_changed}
use Rattle.interlocking.specs.Ledger.{changed, runs_through}
use Rattle.interlocking.proofs.Changes.{Put}
use Rattle.interlocking.proofs.LawsToActs.{put_else}

-- an entry that is put in a row is put in the column that the row is read as
pub set_changed : {A : Type 0} (xs : List A) (x : ℕ) (v d : A) → x < length xs → (y : ℕ) → get_or (set xs x v) y d ≡ cond (eqb y x) v (get_or xs y d)
set_changed xs x v d l y = elim (cases_eq y x) [
  | inl e ↦ ap (λ n. get_or (set xs x v) n d) e ∙ get_or-set_same xs x v d l ∙ sym (cond-true (eqb y x) v (get_or xs y d) (eq-eqb y x e))
  | inr n ↦ get_or-set_other xs x y v d n ∙ sym (cond-false (eqb y x) v (get_or xs y d) (ne_eqb y x n))
]

-- a column with v put at x
pub put_changed : {A : Type 0} (x : ℕ) (v : A) (f : ℕ → A) → Put x v f (changed f x v)
put_changed x v f = put_else x v f (changed f x v) (cond-true (eqb x x) v (f x) (eq-eqb x x refl)) (λ y n. cond-false (eqb y x) v (f y) (ne_eqb y x n))

-- each block of these steps is one that they run through
pub runs_here : (ss : List Step) (i : ℕ) → i < length ss → runs_through ss (step_at ss i).block ≡ true
runs_here [] i l = absurd (omega arith)
runs_here (s ∷ ss) zero l = or_left (eqb s.block s.block) _ (eq-eqb s.block _ refl)
runs_here (s ∷ ss) (suc i) l = or_right (eqb s.block (step_at ss i).block) _ (runs_here ss i (omega arith))

-- and they run through no other
pub runs_where : (ss : List Step) (b : ℕ) → runs_through ss b ≡ true → (i : ℕ) × (i < length ss) × ((step_at ss i).block ≡ b)
runs_where [] b h = absurd (cc)
runs_where (s ∷ ss) b h = elim (or_cases (eqb s.block b) (runs_through ss b) h) [
  | inl e ↦ (0, omega arith, eqb-true s.block b e)
  | inr r ↦ let i = runs_where ss b r in (suc i.0, omega (arith, i.1), i.2)
]

-- each of these steps is in a block that the row has
abbrev pub Within : List Step → ℕ → Type 0
Within ss n = (i : ℕ) → i < length ss → (step_at ss i).block < n

-- v, if either
either_way : {A : Type 0} (x y z : Bool) (v d : A) → x ≡ z → cond y v (cond x v d) ≡ cond (z || y) v d
either_way true true true v d e = refl
either_way true false true v d e = refl
either_way false true false v d e = refl
either_way false false false v d e = refl
either_way true y false v d e = absurd (cc)
either_way false y true v d e = absurd (cc)

-- which of two numbers comes first does not matter
flip_eqb : (a b : ℕ) → eqb a b ≡ eqb b a
flip_eqb a b = elim (cases_eq a b) [
  | inl e ↦ eq-eqb a b e ∙ sym (eq-eqb b a (sym e))
  | inr n ↦ ne_eqb a b n ∙ sym (ne_eqb b a (λ e. n (sym e)))
]

-- holders marked along a route are the column changed along it
pub marked_along : (ss : List Step) (k : Book) (h : Option ℕ) → Within ss (length k.blocks) → (b : ℕ) → holder_of (with_holders k ss h) b ≡ cond (runs_through ss b) h (holder_of k b)
marked_along [] k h w b = refl
marked_along (s ∷ ss) k h w b =
    marked_along ss (with_entry k s.block (held_for h)) h (λ i l. rw (as_many k s.block (held_for h)) (w (suc i) (omega arith))) b
    ∙ ap (cond (runs_through ss b) h) (holder_changed k s.block h (held_for h) (λ e. refl) (w 0 (omega arith)) b)
    ∙ either_way (eqb b s.block) (runs_through ss b) (eqb s.block b) h (holder_of k b) (flip_eqb b s.block)
