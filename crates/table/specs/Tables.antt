-- A table as the memory that it is kept in, and as the list of its items; and how each call changes them. Assumes nothing.
use Rattle.std.specs.Prelude.{ℕ, ◌+◌, ◌-◌, cond, List, [], ◌∷◌, ◌++◌, Result, Ok, Err, nat_lt, nat_le, length, take, replicate, slice_set}
use Rattle.std.specs.List.{copy_within}
use Rattle.table.specs.declared.Table.{Table}
use Rattle.table.specs.declared.NoRoom.{NoRoom}

-- every place, and how many of them are in use
pub record Kept (A : Type 0) : Type 0 where
  pub places : List A
  pub len : ℕ

abbrev pub kept : {A : Type 0} {n : ℕ} → Table A n → Kept A
kept t = record { places = t.items; len = t.len }

-- the items: what the places in use hold
abbrev pub items_of : {A : Type 0} {n : ℕ} → Table A n → List A
items_of t = take t.len t.items

abbrev pub no_room : NoRoom
no_room = record {}

-- where fewer than n items are there, one more behind them; else the answer that there is no room
abbrev pub pushed : {A : Type 0} → ℕ → List A → A → Result Unit NoRoom × List A
pushed n xs x = cond (nat_lt (length xs) n) (Ok tt, xs ++ (x ∷ [])) (Err no_room, xs)

-- the memory of a new table of n places
abbrev pub all_blank : {A : Type 0} → ℕ → A → Kept A
all_blank n x = record { places = replicate n x; len = 0 }

-- the items of a table that was made, or that there was no room
abbrev pub items_or : {A : Type 0} {n : ℕ} → Result (Table A n) NoRoom → Result (List A) NoRoom
items_or (Ok t) = Ok (items_of t)
items_or (Err e) = Err e

-- these items, where n places are enough
abbrev pub fitting : {A : Type 0} → ℕ → List A → Result (List A) NoRoom
fitting n xs = cond (nat_le (length xs) n) (Ok xs) (Err no_room)

-- the memory of n places that holds these items
abbrev pub filled : {A : Type 0} → ℕ → List A → A → Kept A
filled n xs x = record { places = xs ++ replicate (n - length xs) x; len = length xs }

abbrev pub one_more : {A : Type 0} → ℕ → Kept A → A → Kept A
one_more n k x = cond (nat_lt k.len n) (record { places = slice_set k.places k.len x; len = k.len + 1 }) k

abbrev pub put_in : {A : Type 0} → Kept A → ℕ → A → Kept A
put_in k i x = cond (nat_lt i k.len) (record { places = slice_set k.places i x; len = k.len }) k

-- the items behind the place i move up by one; the last place in use keeps what it held
abbrev pub closed_up : {A : Type 0} → Kept A → ℕ → Kept A
closed_up k i = cond (nat_lt i k.len) (record { places = copy_within k.places (i + 1) k.len i; len = k.len - 1 }) k

-- all places behind the first move up by one; the last keeps what it held
abbrev pub first_out : {A : Type 0} → Kept A → Kept A
first_out k = cond (nat_lt 0 k.len) (record { places = copy_within k.places 1 (length k.places) 0; len = k.len - 1 }) k
