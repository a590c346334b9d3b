-- Trains that stand where they can: as many records as trains, and one stand or more for each, on blocks that are there. Assumes
-- nothing.
use Rattle.std.specs.Prelude.{ℕ, Bool, false, ◌&&◌, List, [], ◌∷◌, length, nat_le, nat_lt}
use Rattle.std.specs.List.{list_all}
use Rattle.trackside.specs.declared.answers.Stand.{Stand}
use Rattle.yard.specs.Fleets.{Stock, trains_of}

-- each stand is on one of n blocks
abbrev pub all_on : ℕ → List Stand → Bool
all_on n ss = list_all (λ s. nat_lt s.block n) ss

-- and there is one
abbrev pub stands_on : ℕ → List Stand → Bool
stands_on n [] = false
stands_on n (s ∷ ss) = nat_lt s.block n && all_on n ss

abbrev pub trains_on : ℕ → List (List Stand) → Bool
trains_on n ts = list_all (stands_on n) ts

abbrev pub sound_on : ℕ → Stock → Bool
sound_on n s = nat_le s.count (length s.records) && trains_on n (trains_of s)
