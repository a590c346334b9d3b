-- Numbers of at most two digits, and words that say a number or an end. Assumes nothing.
use Rattle.std.proofs.Common.{◌≡◌, ℕ, ◌+◌, ◌*◌, ◌/◌, ◌%◌, ◌<◌, ◌≤◌, ◌⊎◌, List, [], ◌∷◌, Some, None, Option, sym, refl, ap, ◌∙◌, ap₂, inl, inr, arith}
use Rattle.std.specs.List.{AllByRecursion as All}
use Rattle.std.proofs.lemmas.Bool.{cases_lt, cond-true, cond-false, lt-ltb, le-ltb, cases_eq, eq-eqb, ne_eqb}
use Rattle.std.proofs.lemmas.Bool.Decides.{nat_tests}
use Rattle.reader.specs.Words.{digit, two_digits, number}
use Rattle.reader.specs.Text.{digits}

pub clash : {A : Type 0} {x : A} → ◌≡◌ {A = Option A} None (Some x) → ⊥
clash p = cc

-- an option is none, or some value
pub seen : {A : Type 0} (o : Option A) → (o ≡ None) ⊎ ((x : A) × (o ≡ Some x))
seen None = inl refl
seen (Some x) = inr (x, refl)

abbrev pub Digit : ℕ → Type 0
Digit b = (48 ≤ b) × (b ≤ 57)

digit_of : (n : ℕ) → n < 10 → digit (48 + n) ≡ Some n
digit_of n h = grind (arith, nat_tests)

digit_says : (b n : ℕ) → digit b ≡ Some n → (b ≡ 48 + n) × (n < 10)
digit_says b n h = grind (arith, nat_tests)

two_says : (o p : Option ℕ) (n : ℕ) → two_digits o p ≡ Some n → (t : ℕ) × (u : ℕ) × (o ≡ Some t) × (p ≡ Some u) × (n ≡ 10 * t + u)
two_says None p n h = absurd (clash h)
two_says (Some t) None n h = absurd (clash h)
two_says (Some t) (Some u) n h = (t, u, refl, refl, cc)

digits_small : (n : ℕ) → n < 10 → digits n ≡ (48 + n) ∷ []
digits_small n h = cond-true _ _ _ (lt-ltb n 10 h)

digits_large : (n : ℕ) → 10 ≤ n → digits n ≡ (48 + n / 10) ∷ (48 + n % 10) ∷ []
digits_large n h = cond-false _ _ _ (le-ltb n 10 h)

pub number_digits : (n : ℕ) → n < 100 → number (digits n) ≡ Some n
number_digits n h = elim (cases_lt n 10) [ inl l ↦ rw (digits_small n l, digit_of n l) | inr l ↦ large l ]
  where
    large : 10 ≤ n → number (digits n) ≡ Some n
    large l =
        let e = digit_of (n / 10) (omega arith) in
        let f = digit_of (n % 10) (omega arith) in
        let k = ne_eqb (48 + n / 10) 48 (λ z. omega arith) in
        rw (digits_large n l, k, e, f) (ap Some (omega arith))

two_digits_say : (t u n : ℕ) → number (t ∷ u ∷ []) ≡ Some n → ((t ∷ u ∷ []) ≡ digits n) × (n < 100) × Digit t × Digit u
two_digits_say t u n h = elim (cases_eq t 48) [
  | inl e ↦ absurd (clash (sym (cond-true _ _ _ (eq-eqb t 48 e)) ∙ h))
  | inr k ↦ two k (two_says _ _ n (sym (cond-false _ _ _ (ne_eqb t 48 k)) ∙ h))
]
  where
    two : (t ≡ 48 → ⊥) → (a : ℕ) × (b : ℕ) × (digit t ≡ Some a) × (digit u ≡ Some b) × (n ≡ 10 * a + b) → ((t ∷ u ∷ []) ≡ digits n) × (n < 100) × Digit t × Digit u
    two k s =
        let a = digit_says t s.0 s.2 in
        let b = digit_says u s.1 s.3 in
        let q : t ≡ 48 + n / 10 = omega (arith, s.4) in
        let r : u ≡ 48 + n % 10 = omega (arith, s.4) in
        (ap₂ (λ (x y : ℕ). x ∷ y ∷ []) q r ∙ sym (digits_large n (omega (arith, s.4))), omega (arith, s.4), (omega arith, omega arith), (omega arith, omega arith))

-- what says a number is that number in digits
pub number_says : (w : List ℕ) (n : ℕ) → number w ≡ Some n → (w ≡ digits n) × (n < 100)
number_says [] n h = absurd (clash h)
number_says (d ∷ []) n h = let s = digit_says d n h in (ap (λ (b : ℕ). b ∷ []) s.0 ∙ sym (digits_small n s.1), omega arith)
number_says (t ∷ (u ∷ [])) n h = let s = two_digits_say t u n h in (s.0, s.1)
number_says (t ∷ (u ∷ (v ∷ vs))) n h = absurd (clash h)

number_bytes : (w : List ℕ) (n : ℕ) → number w ≡ Some n → All Digit w
number_bytes [] n h = tt
number_bytes (d ∷ []) n h = let s = digit_says d n h in ((omega arith, omega arith), tt)
number_bytes (t ∷ (u ∷ [])) n h = let s = two_digits_say t u n h in (s.2, (s.3, tt))
number_bytes (t ∷ (u ∷ (v ∷ vs))) n h = absurd (clash h)

pub digits_bytes : (n : ℕ) → n < 100 → All Digit (digits n)
digits_bytes n h = number_bytes (digits n) n (number_digits n h)
