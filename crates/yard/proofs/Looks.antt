-- Who stands in a block, as the tests of a slice say it. Assumes nothing.
use Rattle.std.proofs.Common.{◌≡◌, ℕ, ◌||◌, List, [], ◌∷◌, map, refl, ap}
use Rattle.std.specs.List.{list_any}
use Rattle.trackside.specs.Ground.{stands_in, any_stands_in}
use Rattle.yard.specs.declared.train.Train.{Train}
use Rattle.yard.specs.Trains.{kept, stands_of}

pub train_in : (ts : List Train) (b : ℕ) → list_any (λ (t : Train). stands_in (stands_of (kept t)) b) ts ≡ any_stands_in (map stands_of (map kept ts)) b
train_in [] b = refl
train_in (t ∷ ts) b = ap (λ q. stands_in (stands_of (kept t)) b || q) (train_in ts b)
