-- Words that say a number or an end are that number or that end in text. Assumes nothing.
use Rattle.std.proofs.Common.{◌≡◌, ℕ, suc, ◌+◌, ◌<◌, false, ltb, List, [], ◌∷◌, ◌++◌, length, take, drop, Some, None, codes, Option, sym, refl, ap, ◌∙◌, subst, ap₂, inl, inr, add-one, arith}
use Rattle.std.specs.List.{AllByRecursion as All}
use Rattle.std.specs.Str.{bytes_eq}
use Rattle.std.proofs.ByRecursion.{All-weaker, All-append}
use Rattle.std.proofs.lemmas.Slice.Eq.{bytes_eq-Decides}
use Rattle.std.proofs.lemmas.List.{length-append, take_at}
use Rattle.std.proofs.lemmas.Bool.{cases_Bool, cond-true, cond-false, lt-ltb, le-ltb, ltb-true}
use Rattle.network.specs.declared.track.Joint.{Joint}
use Rattle.network.specs.declared.track.Joint.TheVariants.{Outer, Joined}
use Rattle.reader.specs.Words.{dash, dotted, word, before, token_of, number, joined, joint_of, number_of}
use Rattle.reader.specs.Text.{digits, end_text, JointSized}
use Rattle.reader.proofs.Numbers.{clash, Digit, number_digits, number_says, digits_bytes}
use Rattle.reader.proofs.Pieces.{Lacks, lacks_above, before_lacks, before_at, split_before}

not_same : (v w : List ℕ) → (v ≡ w → ⊥) → bytes_eq v w ≡ false
not_same v w h = elim (cases_Bool (bytes_eq v w)) [ inl e ↦ absurd (h ((bytes_eq-Decides v w).0 e)) | inr e ↦ e ]

drop_past : (p q : List ℕ) (x : ℕ) → drop (suc (length p)) (p ++ x ∷ q) ≡ q
drop_past [] q x = refl
drop_past (y ∷ p) q x = drop_past p q x

-- `-` has no point in it
no_point : (w : List ℕ) → before 46 w < length w → w ≡ codes "-" → ⊥
no_point w h e = let k = subst (λ v. before 46 v < length v) e h in omega (arith, k)

token_dotted : (p q : List ℕ) (n : ℕ) → Lacks 46 p → token_of (p ++ 46 ∷ q) n ≡ dotted p q n
token_dotted p q n h =
    let w = p ++ 46 ∷ q in
    let e = before_at 46 p q h in
    let l : before 46 w < length w = rw e (omega (arith, length-append p (46 ∷ q))) in
    let t : take (before 46 w) w ≡ p = rw e (take_at p (46 ∷ q) (length p) refl) in
    let d : drop (before 46 w + 1) w ≡ q = rw (e, add-one) (drop_past p q 46) in
    cond-false _ _ _ (not_same w (codes "-") (no_point w l)) ∙ cond-true _ _ _ (lt-ltb _ _ l) ∙ ap₂ (λ (x y : List ℕ). dotted x y n) t d

token_word : (w : List ℕ) (n : ℕ) → Lacks 46 w → (w ≡ codes "-" → ⊥) → token_of w n ≡ word w n
token_word w n h k = cond-false _ _ _ (not_same w (codes "-") k) ∙ cond-false _ _ _ (le-ltb (before 46 w) (length w) (omega (arith, before_lacks 46 w h)))

data TokenOf (w : List ℕ) (n : ℕ) : Type 0 where
  is_dash : w ≡ codes "-" → token_of w n ≡ dash n → TokenOf w n
  is_dotted : (p q : List ℕ) → w ≡ p ++ 46 ∷ q → token_of w n ≡ dotted p q n → TokenOf w n
  is_word : token_of w n ≡ word w n → TokenOf w n

token_cases : (w : List ℕ) (n : ℕ) → TokenOf w n
token_cases w n = elim (cases_Bool (bytes_eq w (codes "-"))) [
  | inl e ↦ is_dash ((bytes_eq-Decides w (codes "-")).0 e) (cond-true _ _ _ e)
  | inr e ↦ elim (cases_Bool (ltb (before 46 w) (length w))) [
    | inl f ↦ is_dotted (take (before 46 w) w) (drop (before 46 w + 1) w) (split_before 46 w (ltb-true _ _ f)) (cond-false _ _ _ e ∙ cond-true _ _ _ f)
    | inr f ↦ is_word (cond-false _ _ _ e ∙ cond-false _ _ _ f)
  ]
]

joined_says : (o p : Option ℕ) (j : Joint) → joined o p ≡ Some j → (c : ℕ) × (f : ℕ) × (o ≡ Some c) × (p ≡ Some f) × (j ≡ Joined c f)
joined_says None p j h = absurd (clash h)
joined_says (Some c) None j h = absurd (clash h)
joined_says (Some c) (Some f) j h = (c, f, refl, refl, cc)

pub joint_says : (w : List ℕ) (n : ℕ) (j : Joint) → joint_of (token_of w n) ≡ Some j → (w ≡ end_text j) × JointSized j
joint_says w n j h = go (token_cases w n)
  where
    go : TokenOf w n → (w ≡ end_text j) × JointSized j
    go (is_dash e f) = let g : Outer ≡ j = let k = ap joint_of f in cc in subst (λ i. (w ≡ end_text i) × JointSized i) g (e, tt)
    go (is_dotted p q e f) =
        let s = joined_says (number p) (number q) j (sym (ap joint_of f) ∙ h) in
        let both = number_says p s.0 s.2 in
        let b = number_says q s.1 s.3 in
        subst (λ i. (w ≡ end_text i) × JointSized i) (sym s.4) (e ∙ ap₂ (λ (x y : List ℕ). x ++ 46 ∷ y) both.0 b.0, (both.1, b.1))
    go (is_word f) = absurd (clash (sym (ap joint_of f) ∙ h))

pub word_says : (w : List ℕ) (n b : ℕ) → number_of (token_of w n) ≡ Some b → (w ≡ digits b) × (b < 100)
word_says w n b h = go (token_cases w n)
  where
    go : TokenOf w n → (w ≡ digits b) × (b < 100)
    go (is_dash e f) = absurd (clash (sym (ap number_of f) ∙ h))
    go (is_dotted p q e f) = absurd (clash (sym (ap number_of f) ∙ h))
    go (is_word f) = number_says w b (sym (ap number_of f) ∙ h)

digit_above : (s b : ℕ) → s < 48 → Digit b → s < b
digit_above s b l h = omega arith

pub digits_above : (s n : ℕ) → s < 48 → n < 100 → All (λ b. s < b) (digits n)
digits_above s n l h = All-weaker Digit (λ b. s < b) (λ b k. digit_above s b l k) (digits n) (digits_bytes n h)

pub end_above : (s : ℕ) (j : Joint) → s < 45 → JointSized j → All (λ b. s < b) (end_text j)
end_above s Outer l h = (l, tt)
end_above s (Joined c f) l h = All-append (λ b. s < b) (digits c) (46 ∷ digits f) (digits_above s c (omega arith) h.0) (omega arith, digits_above s f (omega arith) h.1)

number_not_dash : (w : List ℕ) (n : ℕ) → number w ≡ Some n → w ≡ codes "-" → ⊥
number_not_dash w n h e = clash (sym (ap number e) ∙ h)

pub word_digits : (b n : ℕ) → b < 100 → number_of (token_of (digits b) n) ≡ Some b
word_digits b n h =
    let k = number_digits b h in
    ap number_of (token_word (digits b) n (lacks_above 46 (digits b) (digits_above 46 b (omega arith) h)) (number_not_dash (digits b) b k)) ∙ k

pub joint_end : (j : Joint) (n : ℕ) → JointSized j → joint_of (token_of (end_text j) n) ≡ Some j
joint_end Outer n h = refl
joint_end (Joined c f) n h =
    ap joint_of (token_dotted (digits c) (digits f) n (lacks_above 46 (digits c) (digits_above 46 c (omega arith) h.0))) ∙ ap₂ joined (number_digits c h.0) (number_digits f h.1)
