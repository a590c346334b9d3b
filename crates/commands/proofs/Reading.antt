-- A line is read as the command whose text it is, and as no other. Assumes nothing.
use Rattle.std.proofs.Common.{◌≡◌, ℕ, ◌+◌, ◌/◌, ◌%◌, ◌<◌, true, false, cond, ltb, List, [], ◌∷◌, ◌++◌, length, take, drop, Some, None, codes, decimal, Option, sym, refl, ap, ◌∙◌, subst, ap₂, inl, inr, arith, rules}
use Rattle.std.specs.Str.{bytes_eq}
use Rattle.std.proofs.lemmas.Fmt.{decimal_digit, decimal_step}
use Rattle.std.proofs.lemmas.Slice.Eq.{bytes_eq-Decides}
use Rattle.std.proofs.lemmas.List.{append_assoc, length-append, length_push, take_at, drop_at}
use Rattle.std.proofs.lemmas.Bool.{cases_Bool, cases_lt, cond-true, cond-false, lt-ltb, le-ltb, ltb-true}
use Rattle.reader.specs.Text.{digits}
use Rattle.reader.specs.Words.{before, number}
use Rattle.reader.proofs.Numbers.{clash, number_digits, number_says}
use Rattle.reader.proofs.Pieces.{Lacks, before_at, split_before}
use Rattle.yard.specs.declared.wish.Wish.{Wish as TrainWish}
use Rattle.yard.specs.declared.wish.Wish.TheVariants.{Enter, Forward, Clear}
use Rattle.commands.specs.declared.command.Command.{Command}
use Rattle.commands.specs.declared.command.Command.TheVariants.{Reserve, Lay, Form, Open, Cancel, Free, Wish, Watch}
use Rattle.commands.specs.Commands.{wished, wish_command, asked, asked_with, command_of, numbered, written, number_in, Says, Reads}

decimal_digits : (n : ℕ) → n < 100 → decimal n ≡ digits n
decimal_digits n h = elim (cases_lt n 10) [
  | inl l ↦ decimal_digit n l ∙ sym (cond-true _ _ _ (lt-ltb n 10 l))
  | inr l ↦ decimal_step n l (omega arith) ∙ ap (λ ds. ds ++ ((48 + n % 10) ∷ [])) (decimal_digit (n / 10) (omega arith)) ∙ sym (cond-false _ _ _ (le-ltb n 10 l))
]

-- a word that is v, or another
either_word : {A P : Type 0} (w v : List ℕ) (a b : Option A) (x : A) → cond (bytes_eq w v) a b ≡ Some x → (w ≡ v → a ≡ Some x → P) → (b ≡ Some x → P) → P
either_word w v a b x h same other = elim (cases_Bool (bytes_eq w v)) [
  | inl e ↦ same ((bytes_eq-Decides w v).0 e) (sym (cond-true _ a b e) ∙ h)
  | inr e ↦ other (sym (cond-false _ a b e) ∙ h)
]

-- a word with number n makes c
abbrev Makes : List ℕ → ℕ → Command → Type 0
Makes w n c = (numbered w n ≡ written c) × (number_in c ≡ n)

makes : (w v : List ℕ) (n : ℕ) (c d : Command) → Makes v n c → w ≡ v → ◌≡◌ {A = Option Command} (Some c) (Some d) → Makes w n d
makes w v n c d m e f = let g : c ≡ d = cc in subst (Makes w n) g (ap (λ u. numbered u n) e ∙ m.0, m.1)

wish_says : (o : Option TrainWish) (c : Command) → wish_command o ≡ Some c → (x : TrainWish) × (o ≡ Some x) × (Some (Wish x) ≡ Some c)
wish_says None c h = absurd (clash h)
wish_says (Some x) c h = (x, refl, h)

wished_says : (w : List ℕ) (n : ℕ) (x : TrainWish) → wished w n ≡ Some x → Makes w n (Wish x)
wished_says w n x h =
    let at : (v : List ℕ) (y : TrainWish) → Makes v n (Wish y) → w ≡ v → ◌≡◌ {A = Option TrainWish} (Some y) (Some x) → Makes w n (Wish x) = λ v y m e f. let g : y ≡ x = cc in makes w v n (Wish y) (Wish x) m e (ap (λ z. Some (Wish z)) g) in
    either_word w (codes "enter") _ _ x h (at _ (Enter n) (refl, refl)) (λ h.
    either_word w (codes "forward") _ _ x h (at _ (Forward n) (refl, refl)) (λ h.
    either_word w (codes "clear") _ _ x h (at _ (Clear n) (refl, refl)) (λ h. absurd (clash h))))

asked_says : (w : List ℕ) (n : ℕ) (c : Command) → asked w n ≡ Some c → Makes w n c
asked_says w n c h =
    either_word w (codes "reserve") _ _ c h (makes w _ n (Reserve n) c (refl, refl)) (λ h.
    either_word w (codes "lay") _ _ c h (makes w _ n (Lay n) c (refl, refl)) (λ h.
    either_word w (codes "form") _ _ c h (makes w _ n (Form n) c (refl, refl)) (λ h.
    either_word w (codes "open") _ _ c h (makes w _ n (Open n) c (refl, refl)) (λ h.
    either_word w (codes "cancel") _ _ c h (makes w _ n (Cancel n) c (refl, refl)) (λ h.
    either_word w (codes "free") _ _ c h (makes w _ n (Free n) c (refl, refl)) (λ h.
    let s = wish_says (wished w n) c h in makes w w n (Wish s.0) c (wished_says w n s.0 s.1) refl s.2))))))

asked_with_says : (w : List ℕ) (o : Option ℕ) (c : Command) → asked_with w o ≡ Some c → (n : ℕ) × (o ≡ Some n) × (asked w n ≡ Some c)
asked_with_says w None c h = absurd (clash h)
asked_with_says w (Some n) c h = (n, refl, h)

module _ (l : List ℕ) where
  says : (c : Command) → before 32 l < length l → asked_with (take (before 32 l) l) (number (drop (before 32 l + 1) l)) ≡ Some c → Says l c
  says c k h =
      let w = take (before 32 l) l in
      let s = asked_with_says w (number (drop (before 32 l + 1) l)) c h in
      let n = number_says (drop (before 32 l + 1) l) s.0 s.1 in
      let m = asked_says w s.0 c s.2 in
      record { text = split_before 32 l k ∙ ap (λ ds. w ++ 32 ∷ ds) (n.0 ∙ sym (decimal_digits s.0 n.1)) ∙ m.0; small = omega (arith, m.1, n.1) }

  command_says : (c : Command) → command_of l ≡ Some c → Says l c
  command_says c h =
      either_word l (codes "watch") _ _ c h
      (λ e f. let g : Watch ≡ c = cc in subst (Says l) g (record { text = e; small = omega arith }))
      (λ h. elim (cases_Bool (ltb (before 32 l) (length l))) [
        | inl e ↦ says c (ltb-true _ _ e) (sym (cond-true _ _ _ e) ∙ h)
        | inr e ↦ absurd (clash (sym (cond-false _ _ _ e) ∙ h))
      ])

-- a word with a number is read as what the word asks for
numbered_read : (w : List ℕ) (n : ℕ) (c : Command) → Lacks 32 w → bytes_eq (numbered w n) (codes "watch") ≡ false → n < 100 → asked w n ≡ Some c → command_of (numbered w n) ≡ Some c
numbered_read w n c k f h a =
    let l = numbered w n in
    let e : before 32 l ≡ length w = before_at 32 w (decimal n) k in
    let t : take (before 32 l) l ≡ w = take_at w (32 ∷ decimal n) _ (sym e) in
    let d : drop (before 32 l + 1) l ≡ decimal n = ap (drop (before 32 l + 1)) (sym (append_assoc w (32 ∷ []) (decimal n))) ∙ drop_at (w ++ 32 ∷ []) (decimal n) _ (omega (arith, length_push w 32)) in
    let i : ltb (before 32 l) (length l) ≡ true = lt-ltb (before 32 l) (length l) (omega (arith, length-append w (32 ∷ decimal n))) in
    cond-false _ _ _ f ∙ cond-true _ _ _ i ∙ ap₂ asked_with t (ap number d ∙ ap number (decimal_digits n h) ∙ number_digits n h) ∙ a

command_read : (c : Command) → number_in c < 100 → command_of (written c) ≡ Some c
command_read (Reserve r) h = numbered_read (codes "reserve") r (Reserve r) (search rules) refl h refl
command_read (Lay r) h = numbered_read (codes "lay") r (Lay r) (search rules) refl h refl
command_read (Form r) h = numbered_read (codes "form") r (Form r) (search rules) refl h refl
command_read (Open r) h = numbered_read (codes "open") r (Open r) (search rules) refl h refl
command_read (Cancel r) h = numbered_read (codes "cancel") r (Cancel r) (search rules) refl h refl
command_read (Free r) h = numbered_read (codes "free") r (Free r) (search rules) refl h refl
command_read (Wish (Enter b)) h = numbered_read (codes "enter") b (Wish (Enter b)) (search rules) refl h refl
command_read (Wish (Forward t)) h = numbered_read (codes "forward") t (Wish (Forward t)) (search rules) refl h refl
command_read (Wish (Clear t)) h = numbered_read (codes "clear") t (Wish (Clear t)) (search rules) refl h refl
command_read Watch h = refl

pub reads : (l : List ℕ) (r : Option Command) → r ≡ command_of l → Reads l r
reads l r e = record {
  right = λ c h. command_says l c (sym e ∙ h);
  only = λ c s. e ∙ ap command_of s.text ∙ command_read c s.small;
}
