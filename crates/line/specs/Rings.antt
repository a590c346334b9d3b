-- What a ring of slots holds, oldest first, and its two ends. Assumes nothing.
use Rattle.std.specs.Prelude.{ℕ, ◌+◌, ◌-◌, cond, List, ◌++◌, take, drop, nat_lt}

-- n items of the ring xs, from the place f on
abbrev pub in_ring : {T : Type 0} → List T → ℕ → ℕ → List T
in_ring xs f n = take n (drop f xs ++ take f xs)

-- the place behind n items that begin at f, in a ring of k places
abbrev pub back_of : ℕ → ℕ → ℕ → ℕ
back_of k f n = cond (nat_lt n (k - f)) (f + n) (n - (k - f))

-- the place of the oldest item
abbrev pub front_of : ℕ → ℕ → ℕ
front_of k f = cond (nat_lt f k) f 0
