-- What is pushed, where it is known whether there is room.
use Rattle.std.proofs.Common.{◌≡◌, ℕ, ◌<◌, ◌≤◌, List, [], ◌∷◌, ◌++◌, length, Ok, Err, Result, ap, ◌∙◌, arith}
use Rattle.std.proofs.lemmas.Bool.Decides.{nat_tests}
use Rattle.table.specs.declared.NoRoom.{NoRoom}
use Rattle.table.specs.Tables.{no_room, pushed}

module _ {A : Type 0} (n : ℕ) (xs : List A) (x : A) where
  pub pushed_in : length xs < n → pushed n xs x ≡ (Ok tt, xs ++ (x ∷ []))
  pushed_in h = grind (arith, nat_tests)

  pub pushed_out : n ≤ length xs → pushed n xs x ≡ (Err no_room, xs)
  pushed_out h = grind (arith, nat_tests)

-- where there is room, a push adds its item
pub pushed_items : {A : Type 0} {n : ℕ} {r : Result Unit NoRoom} {ys : List A} (xs : List A) (x : A) → (r, ys) ≡ pushed n xs x → length xs < n → ys ≡ xs ++ x ∷ []
pushed_items {n = n} xs x h l = ap (λ q. q.1) (h ∙ pushed_in n xs x l)
