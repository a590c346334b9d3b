-- An input is parted at its first line that is `.`. Assumes nothing.
use Rattle.std.proofs.Common.{◌≡◌, ℕ, zero, suc, ◌+◌, ◌-◌, ◌<◌, ◌≤◌, Bool, true, false, cond, not, ◌&&◌, eqb, List, [], ◌∷◌, ◌++◌, length, take, drop, None, codes, Option, sym, refl, ap, ◌∙◌, subst, ap₂, inl, inr, arith}
use lib.Seq.{take-append-add}
use Rattle.std.specs.List.{AllByRecursion}
use Rattle.std.specs.Str.{bytes_eq}
use Rattle.std.proofs.ByRecursion.{All-weaker}
use Rattle.std.proofs.lemmas.Slice.Eq.{bytes_eq-Decides}
use Rattle.std.proofs.lemmas.List.{append_assoc, length-drop, length-take-le, length_push, take_all, drop_all, drop-drop}
use Rattle.std.proofs.lemmas.Bool.{cases_Bool, cases_lt, cond-true, cond-false, eq-eqb, ne_eqb, true≢false}
use Rattle.reader.specs.Words.{before}
use Rattle.reader.specs.Text.{ended}
use Rattle.reader.proofs.Cuts.{pieces_cut, pieces_whole}
use Rattle.reader.proofs.Numbers.{clash}
use Rattle.reader.proofs.Pieces.{Lacks, pieces_lack, split_before}
use Rattle.commands.specs.Lines.{Split, split_line}
use Rattle.commands.specs.Parts.{is_mark, before_mark, sheet_of, commands_of, SheetLine, SheetLines, Cut, Whole, Parted}
use Rattle.commands.proofs.Splitting.{pair}

-- the step over one byte; e says whether it is a line end
passed_step : (e : Bool) (x n : ℕ) (xs : List ℕ) → before_mark false xs + length (drop (n + 1) xs) ≡ length xs + before_mark true (drop (n + 1) xs) → (1 + before_mark e xs) + length (drop (cond (not e) (1 + n) 0 + 1) (x ∷ xs)) ≡ suc (length xs) + before_mark true (drop (cond (not e) (1 + n) 0 + 1) (x ∷ xs))
passed_step true x n xs ih = omega arith
passed_step false x n xs ih =
    let e : 1 + n ≡ suc n = omega arith in
    let f : suc n + 1 ≡ suc (n + 1) = omega arith in
    rw (e, f) (omega arith)

-- past a first line that is not the mark; b says that it is a whole line
passed_from : (b : Bool) (t : List ℕ) → (b && is_mark t) ≡ false → before_mark b t + length (drop (before 10 t + 1) t) ≡ length t + before_mark true (drop (before 10 t + 1) t)
passed_from b [] h = refl
passed_from b (x ∷ xs) h = rw (cond-false {A = ℕ} (b && is_mark (x ∷ xs)) 0 (1 + before_mark (eqb x 10) xs) h) (passed_step (eqb x 10) x (before 10 xs) xs (passed_from false xs refl))

passed : (t : List ℕ) → is_mark t ≡ false → before_mark true t + length (drop (before 10 t + 1) t) ≡ length t + before_mark true (drop (before 10 t + 1) t)
passed t h = passed_from true t h

found : (t : List ℕ) → is_mark t ≡ true → before_mark true t ≡ 0
found [] h = refl
found (x ∷ xs) h = cond-true _ _ _ h

-- a line that is split off, and what follows it
split_says : (t a b : List ℕ) → pair a b ≡ split_line t → (a ≡ take (before 10 t) t) × (b ≡ drop (before 10 t + 1) t)
split_says [] a b h = absurd (clash (sym h))
split_says (x ∷ xs) a b h =
    let t = x ∷ xs in
    let l = take (before 10 t) t in
    let r = drop (before 10 t + 1) t in
    let e : pair a b ≡ pair l r = h ∙ cond-false _ _ _ (ne_eqb (suc (length xs)) 0 (λ z. omega arith)) in
    let f : ◌≡◌ {A = Split} (record { line = a; rest = b }) (record { line = l; rest = r }) = cc in
    (ap (λ (s : Split). s.line) f, ap (λ (s : Split). s.rest) f)

none_left : (t : List ℕ) → ◌≡◌ {A = Option Split} None (split_line t) → t ≡ []
none_left [] h = refl
none_left (x ∷ xs) h = absurd (clash (h ∙ cond-false _ _ _ (ne_eqb (suc (length xs)) 0 (λ z. omega arith))))

-- behind the mark
behind_mark : (t : List ℕ) → is_mark t ≡ true → drop (before 10 t + 1) t ≡ drop 2 t
behind_mark t h =
    let n = before 10 t in
    let k = ap length ((bytes_eq-Decides (take n t) (codes ".")).0 h) in
    elim (cases_lt n (length t)) [
      | inl l ↦ let e : n + 1 ≡ 2 = omega (arith, k, length-take-le n t (omega arith)) in ap (λ i. drop i t) e
      | inr l ↦ let e : length t ≡ 1 = sym (ap length (take_all n t l)) ∙ k in drop_all (n + 1) t (omega arith) ∙ sym (drop_all 2 t (omega arith))
    ]

-- what is left of an input from the beginning of a line on, with no mark before it
pub record At (input rest : List ℕ) : Type 0 where
  pub within : length rest ≤ length input
  pub part : rest ≡ drop (length input - length rest) input
  pub mark : (length input - length rest) + before_mark true rest ≡ before_mark true input

module _ (input rest : List ℕ) (at : At input rest) where
  pub goes_on : (a b : List ℕ) → pair a b ≡ split_line rest → false ≡ bytes_eq a (codes ".") → At input b
  goes_on a b h f =
      let n = before 10 rest in
      let k = length input - length rest in
      let s = split_says rest a b h in
      let e = ap length s.1 ∙ length-drop (n + 1) rest in
      let p = passed rest (sym (f ∙ ap (λ l. bytes_eq l (codes ".")) s.0)) in
      let q = s.1 ∙ ap (drop (n + 1)) at.part ∙ drop-drop (n + 1) k input in
      let m = ap (before_mark true) s.1 in
      record {
        within = omega (arith, e, at.within);
        part = elim (cases_lt n (length rest)) [
          | inl l ↦ let i : k + (n + 1) ≡ length input - length b = omega (arith, e, at.within) in q ∙ ap (λ j. drop j input) i
          | inr l ↦ q ∙ drop_all (k + (n + 1)) input (omega (arith, at.within)) ∙ sym (drop_all (length input - length b) input (omega (arith, e, at.within)))
        ];
        mark = omega (arith, ap length s.1, p, m, at.mark, at.within, e);
      }

  pub cut_here : (a b : List ℕ) → pair a b ≡ split_line rest → true ≡ bytes_eq a (codes ".") → (take (length input - length rest) input ≡ sheet_of input) × (b ≡ commands_of input)
  cut_here a b h f =
      let k = length input - length rest in
      let s = split_says rest a b h in
      let t = sym (f ∙ ap (λ l. bytes_eq l (codes ".")) s.0) in
      let m : k ≡ before_mark true input = omega (arith, found rest t, at.mark) in
      (ap (λ j. take j input) m, s.1 ∙ behind_mark rest t ∙ ap (drop 2) at.part ∙ drop-drop 2 k input ∙ ap (λ j. drop (j + 2) input) m)

  pub no_mark : ◌≡◌ {A = Option Split} None (split_line rest) → (input ≡ sheet_of input) × (rest ≡ commands_of input)
  no_mark h =
      let e = none_left rest h in
      let m : length input ≡ before_mark true input = omega (arith, ap length e, ap (before_mark true) e, at.mark) in
      (sym (take_all _ input (omega arith)), e ∙ sym (drop_all _ input (omega arith)))

sheet_line : (l : List ℕ) → Lacks 10 l → bytes_eq l (codes ".") ≡ false → SheetLine l
sheet_line l k h = record {
  one = All-weaker (λ b. eqb b 10 ≡ false) (λ b. b ≡ 10 → ⊥) (λ b e f. true≢false (sym (eq-eqb b 10 f) ∙ e)) l k;
  other = λ e. true≢false (sym ((bytes_eq-Decides l (codes ".")).1 e) ∙ h);
}

no_lines : SheetLines []
no_lines = record { lines = []; text = refl; each = tt }

one_more : (l s : List ℕ) → SheetLine l → SheetLines s → SheetLines (ended l ++ s)
one_more l s h k = record { lines = l ∷ k.lines; text = ap (λ u. ended l ++ u) k.text; each = (h, k.each) }

line_before : (l t s c : List ℕ) → SheetLine l → Parted t s c → Parted (ended l ++ t) (ended l ++ s) c
line_before l t s c h (inl k) = inl (record {
  lines = one_more l s h k.lines;
  end = k.end;
  ends = k.ends;
  text = ap (λ u. ended l ++ u) k.text ∙ sym (append_assoc (ended l) s (codes "." ++ (k.end ++ c)));
})
line_before l t s c h (inr k) = inr (record {
  front = ended l ++ k.front;
  last = k.last;
  text = ap (λ u. ended l ++ u) k.text ∙ sym (append_assoc (ended l) k.front k.last);
  lines = one_more l k.front h k.lines;
  last_line = k.last_line;
  all = ap (λ u. ended l ++ u) k.all;
  none = k.none;
})

same : {t s c u v w : List ℕ} → t ≡ u → s ≡ v → c ≡ w → Parted u v w → Parted t s c
same {t} {s} {c} {u} {v} {w} p q r h = subst (λ x. Parted x s c) (sym p) (subst (λ x. Parted u x c) (sym q) (subst (λ x. Parted u v x) (sym r) h))

module _ (t : List ℕ) where
  -- the first line, and what follows it
  abbrev line : List ℕ
  line = take (before 10 t) t

  abbrev after : List ℕ
  after = drop (before 10 t + 1) t

  mark_first : is_mark t ≡ true → Cut t (sheet_of t) (commands_of t)
  mark_first h =
      let e : line ≡ codes "." = (bytes_eq-Decides line (codes ".")).0 h in
      let s : sheet_of t ≡ [] = ap (λ k. take k t) (found t h) in
      let c : commands_of t ≡ drop 2 t = ap (λ k. drop (k + 2) t) (found t h) in
      elim (cases_lt (before 10 t) (length t)) [
        | inl l ↦ record {
          lines = subst SheetLines (sym s) no_lines;
          end = 10 ∷ [];
          ends = inl refl;
          text = split_before 10 t l ∙ ap₂ (λ (u v : List ℕ). u ++ 10 ∷ v) e (behind_mark t h) ∙ sym (ap₂ (λ (u v : List ℕ). u ++ (codes "." ++ 10 ∷ v)) s c);
        }
        | inr l ↦ let f = sym (take_all (before 10 t) t l) ∙ e in let none = c ∙ drop_all 2 t (omega (arith, ap length f)) in record {
          lines = subst SheetLines (sym s) no_lines;
          end = [];
          ends = inr (refl, none);
          text = f ∙ sym (ap₂ (λ (u v : List ℕ). u ++ (codes "." ++ v)) s none);
        }
      ]

  last_line : is_mark t ≡ false → length t ≤ before 10 t → Whole t (sheet_of t) (commands_of t)
  last_line h l =
      let e : after ≡ [] = drop_all (before 10 t + 1) t (omega arith) in
      let k : before_mark true t ≡ length t = omega (arith, passed t h, ap length e, ap (before_mark true) e) in
      record {
        front = [];
        last = t;
        text = refl;
        lines = no_lines;
        last_line = sheet_line t (subst (AllByRecursion (Lacks 10)) (pieces_whole 10 t l) (pieces_lack 10 t)).0 (sym (ap (λ u. bytes_eq u (codes ".")) (take_all (before 10 t) t l)) ∙ h);
        all = take_all _ t (omega arith);
        none = drop_all _ t (omega arith);
      }

  line_first : is_mark t ≡ false → before 10 t < length t → Parted after (sheet_of after) (commands_of after) → Parted t (sheet_of t) (commands_of t)
  line_first h l p =
      let n = before 10 t in
      let m = before_mark true after in
      let text : t ≡ ended line ++ after = split_before 10 t l ∙ sym (append_assoc line (10 ∷ []) after) in
      let w : length (ended line) ≡ n + 1 = omega (arith, length_push line 10, length-take-le n t (omega arith)) in
      let k : before_mark true t ≡ length (ended line) + m = omega (arith, passed t h, length-drop (n + 1) t) in
      let i : before_mark true t + 2 ≡ (n + 1) + (m + 2) = omega arith in
      let one = sheet_line line (subst (AllByRecursion (Lacks 10)) (pieces_cut 10 t l) (pieces_lack 10 t)).0 h in
      same text (ap₂ take k text ∙ take-append-add (ended line) after m) (ap (λ j. drop j t) i ∙ sym (drop-drop (m + 2) (n + 1) t)) (line_before line after (sheet_of after) (commands_of after) one p)

parted_from : (n : ℕ) (t : List ℕ) → length t ≤ n → Parted t (sheet_of t) (commands_of t)
parted_from n [] h = inr (record { front = []; last = []; text = refl; lines = no_lines; last_line = sheet_line [] tt refl; all = refl; none = refl })
parted_from zero (x ∷ xs) h = absurd (omega arith)
parted_from (suc n) (x ∷ xs) h =
    let t = x ∷ xs in
    elim (cases_Bool (is_mark t)) [
      | inl e ↦ inl (mark_first t e)
      | inr e ↦ elim (cases_lt (before 10 t) (length t)) [
        | inl l ↦ line_first t e l (parted_from n (after t) (omega (arith, length-drop (before 10 t + 1) t)))
        | inr l ↦ inr (last_line t e l)
      ]
    ]

pub parted_as : (t s c : List ℕ) → s ≡ sheet_of t → c ≡ commands_of t → Parted t s c
parted_as t s c p q = same refl p q (parted_from (length t) t (omega arith))
