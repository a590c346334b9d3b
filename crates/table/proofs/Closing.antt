-- A list that closes up, within the list that holds it.
use Rattle.std.proofs.Common.{◌≡◌, ℕ, suc, ◌+◌, ◌-◌, ◌<◌, ◌≤◌, List, ◌++◌, length, take, drop, sym, ap, ◌∙◌, arith, length-drop}
use Rattle.std.proofs.lemmas.List.{drop-take, take-take}
use Rattle.std.proofs.lemmas.List.Edits.{take-paste}
use Rattle.std.proofs.Math.Seq.{paste}
use Rattle.std.specs.List.{copy_within, remove}

pub front_closes : {A : Type 0} (xs : List A) (n i : ℕ) → n ≤ length xs → i < n → take (n - 1) (copy_within xs (i + 1) n i) ≡ remove (take n xs) i
front_closes xs n i h l =
    let m = n - suc i in
    let long = length-drop (suc i) xs in
    let at : n - 1 ≡ i + m = omega arith in
    let whole : suc i + m ≡ n = omega arith in
    let gap : n - (i + 1) ≡ m = omega arith in
    let next : i + 1 ≡ suc i = omega arith in
    let front = take-paste xs i (drop (suc i) xs) m (omega arith) (omega arith) in
    let kept = sym (take-take i n xs (omega arith)) in
    let rest = sym (drop-take (suc i) m xs) ∙ ap (λ k. drop (suc i) (take k xs)) whole in
    ap (λ k. take k (copy_within xs (i + 1) n i)) at
    ∙ ap (λ k. take (i + m) (paste xs i (drop (i + 1) xs) k)) gap
    ∙ ap (λ k. take (i + m) (paste xs i (drop k xs) m)) next
    ∙ front
    ∙ ap (λ ys. ys ++ take m (drop (suc i) xs)) kept
    ∙ ap (λ ys. take i (take n xs) ++ ys) rest

-- where all behind the first moves up, so does what is in front of any end
pub first_goes : {A : Type 0} (xs : List A) (n : ℕ) → n ≤ length xs → 0 < n → take (n - 1) (copy_within xs 1 (length xs) 0) ≡ drop 1 (take n xs)
first_goes xs n h l =
    let m = length xs - 1 in
    let k = n - 1 in
    let all = paste xs 0 (drop 1 xs) m in
    let long = length-drop 1 xs in
    let front = take-paste xs 0 (drop 1 xs) m (omega arith) (omega arith) in
    let last : m ≡ 0 + m = omega arith in
    let whole : 1 + k ≡ n = omega arith in
    sym (take-take k m all (omega arith))
    ∙ ap (λ j. take k (take j all)) last
    ∙ ap (λ ys. take k ys) front
    ∙ take-take k m (drop 1 xs) (omega arith)
    ∙ sym (drop-take 1 k xs)
    ∙ ap (λ j. drop 1 (take j xs)) whole
