-- What is known of a table of trains. Assumes nothing.
use Rattle.std.proofs.Common.{◌≡◌, ℕ, suc, ◌||◌, List, [], ◌∷◌, ◌++◌, map, get_or, take, drop, Some, Option, sym, refl, ap, ◌∙◌, arith}
use lib.ListN.{length-map}
use Rattle.std.specs.List.{list_any, remove}
use Rattle.std.proofs.lemmas.List.{get_or-map, map-append, take-map, drop-map}
use Rattle.trackside.specs.declared.answers.Stand.{Stand}
use Rattle.trackside.specs.Ground.{stands_in, any_stands_in}
use Rattle.trackside.specs.Laws.{without}
use Rattle.framelink.specs.declared.train.Train.{Train}
use Rattle.framelink.specs.Found.{found_here}
use Rattle.framelink.specs.Movements.{first_with}
use Rattle.framelink.specs.Trains.{stands_of}

pub trains_any : (ts : List Train) (b : ℕ) → list_any (λ t. stands_in (stands_of t) b) ts ≡ any_stands_in (map stands_of ts) b
trains_any [] b = refl
trains_any (t ∷ ts) b = ap (λ u. stands_in (stands_of t) b || u) (trains_any ts b)

pub trains_left : (ts : List Train) (k : ℕ) → map stands_of (remove ts k) ≡ without (map stands_of ts) k
trains_left ts k =
    let front = take-map stands_of k ts in
    let back = drop-map stands_of (suc k) ts in
    map-append stands_of (take k ts) (drop (suc k) ts) ∙ (λ i. sym front i ++ sym back i)

-- what is known of the train t that a search found as the k-th, with what the test gave
pub record FoundTrain {X : Type 0} (p : List Stand → Option X) (ts : List Train) (k : ℕ) (x : X) (t : Train) : Type 0 where
  pub first : first_with p 0 (map stands_of ts) ≡ Some (k, x)
  pub stands : stands_of t ≡ get_or (map stands_of ts) k []
  pub gives : p (stands_of t) ≡ Some x

pub found_at : {X : Type 0} (p : List Stand → Option X) (ts : List Train) {xs : List Train} {k : ℕ} {x : X} {t : Train} {o : Option (ℕ × X)} → o ≡ first_with p 0 (map stands_of ts) → o ≡ Some (k, x) → xs ≡ ts → t ≡ get_or xs k t → FoundTrain p ts k x t
found_at p ts {k = k} {x = x} {t = t} e f same is =
    let first = sym e ∙ f in
    let r = found_here p [] (map stands_of ts) (k, x) first in
    let stands = ap stands_of (is ∙ ap (λ xs. get_or xs k t) same) ∙ sym (get_or-map stands_of ts k t [] (omega (arith, r.0, length-map ts stands_of))) in
    record { first = first; stands = stands; gives = ap p stands ∙ r.1 }
