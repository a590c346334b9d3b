-- Trains that stand on blocks that are there, as a test. Assumes nothing.
use Rattle.std.specs.Prelude.{◌≡◌, ℕ, zero, suc, ◌<◌, Bool, true, List, [], ◌∷◌, length, get_or, nat_lt, slice_index_or, refl}
use Rattle.std.specs.List.{list_all}
use Rattle.std.proofs.lemmas.Bool.{ltb-true, and_parts}
use Rattle.std.proofs.lemmas.List.Recursion.{and_at}
use Rattle.trackside.specs.declared.answers.Stand.{Stand}
use Rattle.trackside.specs.Ground.{no_stand}

-- every stand of a train is on one of n blocks
abbrev pub train_there : ℕ → List Stand → Bool
train_there n t = list_all (λ (s : Stand). nat_lt s.block n) t

abbrev pub all_there : ℕ → List (List Stand) → Bool
all_there n ts = list_all (train_there n) ts

pub one_there : (n : ℕ) (ts : List (List Stand)) → all_there n ts ≡ true → (k : ℕ) → train_there n (slice_index_or ts k []) ≡ true
one_there n [] h k = refl
one_there n (t ∷ ts) h zero = (and_parts _ _ h).0
one_there n (t ∷ ts) h (suc k) = one_there n ts (and_parts _ _ h).1 k

pub each_there : (n : ℕ) (ts : List (List Stand)) → all_there n ts ≡ true → (k i : ℕ) → i < length (slice_index_or ts k []) → (get_or (slice_index_or ts k []) i no_stand).block < n
each_there n ts h k i l =
    let t = slice_index_or ts k [] in
    ltb-true _ _ (and_at (train_there n) (λ (s : Stand). nat_lt s.block n) refl (λ _ _. refl) t i no_stand l (one_there n ts h k))
