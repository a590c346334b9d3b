-- The items that a table keeps of those that words name. Assumes nothing.
use Rattle.std.proofs.Common.{◌≡◌, ℕ, ◌<◌, ◌≤◌, List, [], ◌∷◌, ◌++◌, length, Some, None, Ok, Err, fold, Option, Result, sym, refl, ap, ◌∙◌, inl, inr, arith}
use Rattle.std.proofs.lemmas.List.{append-nil, append_assoc, length_push}
use Rattle.std.proofs.lemmas.Bool.{cases_lt, cond-true, cond-false, lt-ltb, le-ltb}
use Rattle.std.proofs.lemmas.Bool.Decides.{nat_tests}
use Rattle.table.proofs.Pushes.{pushed_in, pushed_out}
use Rattle.std.specs.Result.{result_and}
use Rattle.table.specs.declared.NoRoom.{NoRoom}
use Rattle.table.specs.declared.Table.{Table}
use Rattle.table.specs.Tables.{items_of, pushed}
use Rattle.network.proofs.BlockRules.{same_some}
use Rattle.reader.specs.Words.{Shown, token_of}
use Rattle.reader.specs.Reads.{first_item, each_read}
use Rattle.reader.proofs.Numbers.{clash}
use Rattle.reader.specs.Views.{head, tail, token_in, kept, keep, and_item, all_kept, kept_so}

-- N is the bound
module _ {T : Type 0} (N : ℕ) where
  keep_push : (xs : List T) (x : T) → and_item N (keep N xs) x ≡ keep N (xs ++ x ∷ [])
  keep_push xs x = let more = length_push xs x in grind (arith, nat_tests)

  -- items added one by one
  keep_all : (xs ys : List T) → fold (and_item N) (keep N xs) ys ≡ keep N (xs ++ ys)
  keep_all xs [] = sym (ap (keep N) (append-nil xs))
  keep_all xs (y ∷ ys) = ap (λ o. fold (and_item N) o ys) (keep_push xs y) ∙ keep_all (xs ++ y ∷ []) ys ∙ ap (keep N) (append_assoc xs (y ∷ []) ys)

  -- what is kept of the items so far and of those still ahead
  abbrev pub after : Option (List T) → Option (List T) → Option (Option (List T))
  after k None = None
  after k (Some xs) = Some (fold (and_item N) k xs)

  pub from_start : (o : Option (List T)) → after (Some []) o ≡ all_kept N o
  from_start None = refl
  from_start (Some xs) = ap Some (ap (λ o. fold (and_item N) o xs) (grind (arith, nat_tests)) ∙ keep_all [] xs)

  -- a push keeps its item where there was room all along
  pub and_pushed : (fits r : Result Unit NoRoom) (xs ys : List T) (x : T) → (r, ys) ≡ pushed N xs x → kept_so (result_and fits r) ys ≡ and_item N (kept_so fits xs) x
  and_pushed (Err e) r xs ys x h = refl
  and_pushed (Ok u) r xs ys x h = ap so h ∙ elim (cases_lt (length xs) N) [
    | inl l ↦ let few : length (xs ++ x ∷ []) ≤ N = omega (arith, length_push xs x) in ap so (pushed_in N xs x l) ∙ sym (cond-false _ _ _ (le-ltb _ _ few))
    | inr l ↦ let many : N < length (xs ++ x ∷ []) = omega (arith, length_push xs x) in ap so (pushed_out N xs x l) ∙ sym (cond-true _ _ _ (lt-ltb _ _ many))
  ]
    where
      so : Result Unit NoRoom × List T → Option (List T)
      so p = kept_so p.0 p.1

  -- what is kept in the end, word by word: f says what a word names on line n
  module _ (f : Shown → Option T) (n : ℕ) where
    pub refused : (k : Option (List T)) (ws : List (List ℕ)) (t : Shown) → Some t ≡ token_in (head ws) n → f t ≡ None → after k (each_read f n ws) ≡ None
    refused k [] t e h = absurd (clash (sym e))
    refused k (w ∷ ws) t e h = let same : f (token_of w n) ≡ None = ap f (same_some refl (sym e)) ∙ h in ap (λ o. after k (first_item o (each_read f n ws))) same

    one_more : (k : Option (List T)) (x : T) (o : Option (List T)) → after k (first_item (Some x) o) ≡ after (and_item N k x) o
    one_more k x None = refl
    one_more k x (Some xs) = refl

    taken : (k : Option (List T)) (ws : List (List ℕ)) (t : Shown) (x : T) → Some t ≡ token_in (head ws) n → f t ≡ Some x → after k (each_read f n ws) ≡ after (and_item N k x) (each_read f n (tail ws))
    taken k [] t x e h = absurd (clash (sym e))
    taken k (w ∷ ws) t x e h =
        let same : f (token_of w n) ≡ Some x = ap f (same_some refl (sym e)) ∙ h in
        ap (λ o. after k (first_item o (each_read f n ws))) same ∙ one_more k x (each_read f n ws)

    pub word_taken : (k l : Option (List T)) (ws vs : List (List ℕ)) (m : ℕ) (t : Shown) (x : T) → Some t ≡ token_in (head ws) n → f t ≡ Some x → l ≡ and_item N k x → vs ≡ tail ws → m ≡ n → after l (each_read f m vs) ≡ after k (each_read f n ws)
    word_taken k l ws vs m t x e h more rest line =
        ap (λ i. after i (each_read f m vs)) more ∙ ap (λ us. after (and_item N k x) (each_read f m us)) rest ∙ ap (λ i. after (and_item N k x) (each_read f i (tail ws))) line ∙ sym (taken k ws t x e h)

    pub ended : (k : Option (List T)) (ws : List (List ℕ)) → None ≡ token_in (head ws) n → after k (each_read f n ws) ≡ Some k
    ended k [] e = refl
    ended k (w ∷ ws) e = absurd (clash e)

  pub kept_and : (fits : Result Unit NoRoom) (t : Table T N) → kept (result_and fits (Ok t)) ≡ kept_so fits (items_of t)
  kept_and (Ok u) t = refl
  kept_and (Err e) t = refl
