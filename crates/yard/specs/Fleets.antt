-- Trains in records, and what becomes of them. Assumes nothing.
use Rattle.std.specs.Prelude.{◌≡◌, ℕ, ◌+◌, ◌-◌, cond, List, map, length, take, Some, None, Option, nat_lt, slice_set}
use Rattle.std.specs.List.{slice_get, copy_within}
use Rattle.table.specs.Tables.{Kept}
use Rattle.trackside.specs.declared.answers.Stand.{Stand}
use Rattle.yard.specs.declared.fleet.Fleet.{Fleet}
use Rattle.yard.specs.Trains.{kept, stands_of, blank, extended}

-- what all the records hold; the first `count` are the trains, in the order of entering
pub record Stock : Type 0 where
  pub records : List (Kept Stand)
  pub count : ℕ

abbrev pub stock : Fleet → Stock
stock f = record { records = map kept f.records.now; count = f.count }

-- the records stay in use where they lie
abbrev pub Lent : Fleet → Fleet → Type 0
Lent f g = g.records.ghost_name ≡ f.records.ghost_name

abbrev pub new_stock : List (Kept Stand) → Stock
new_stock rs = record { records = rs; count = 0 }

-- the stands of each train
abbrev pub trains_of : Stock → List (List Stand)
trains_of s = map stands_of (take s.count s.records)

abbrev pub found : Stock → ℕ → Option (Kept Stand)
found s t = slice_get (take s.count s.records) t

abbrev pub with_train : Stock → ℕ → Kept Stand → Stock
with_train s t k = record { records = slice_set s.records t k; count = s.count }

-- one more train, of one stand
abbrev pub one_added : Stock → Stand → Stock
one_added s x = record { records = slice_set s.records s.count (extended blank x).1; count = s.count + 1 }

-- where a record is free: the number of the new train, and the trains with it
abbrev pub added : Stock → Stand → Option ℕ × Stock
added s x = cond (nat_lt s.count (length s.records)) (Some s.count, one_added s x) (None, s)

abbrev pub taken_out : Stock → ℕ → Stock
taken_out s t = record { records = copy_within s.records (t + 1) s.count t; count = s.count - 1 }
