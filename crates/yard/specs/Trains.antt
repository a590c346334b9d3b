-- The record of a train, and what becomes of it. Assumes nothing.
use Rattle.std.specs.Prelude.{◌-◌, cond, List, length, take, nat_lt, slice_index_or, Ok, Err, Result}
use Rattle.table.specs.declared.NoRoom.{NoRoom}
use Rattle.table.specs.Tables.{Kept, all_blank, one_more, closed_up, no_room, kept as kept_by}
use Rattle.trackside.specs.declared.answers.Stand.{Stand}
use Rattle.trackside.specs.Ground.{no_stand}
use Rattle.yard.specs.declared.train.Train.{Train}

-- what a record holds: places for stands, of which the first `len` are in use
abbrev pub kept : Train → Kept Stand
kept t = kept_by t.stands

-- the stands of the train, rear first
abbrev pub stands_of : Kept Stand → List Stand
stands_of k = take k.len k.places

-- a record that no train uses
abbrev pub blank : Kept Stand
blank = all_blank 24 no_stand

-- one more stand in front, where there is a place for it
abbrev pub extended : Kept Stand → Stand → Result Unit NoRoom × Kept Stand
extended k s = (cond (nat_lt k.len 24) (Ok tt) (Err no_room), one_more 24 k s)

-- one stand less in the rear
abbrev pub shortened : Kept Stand → Kept Stand
shortened k = closed_up k 0

abbrev pub front_of : Kept Stand → Stand
front_of k = slice_index_or (stands_of k) (length (stands_of k) - 1) no_stand

abbrev pub rear_of : Kept Stand → Stand
rear_of k = slice_index_or (stands_of k) 0 no_stand
