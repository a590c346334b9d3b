-- A train as the list of its stands, rear first, and a table of trains as the list of these. Assumes nothing.
use Rattle.std.specs.Prelude.{ℕ, ◌-◌, List, map, length, slice_index_or}
use Rattle.table.specs.declared.Table.{Table}
use Rattle.table.specs.Tables.{items_of}
use Rattle.trackside.specs.declared.answers.Stand.{Stand}
use Rattle.trackside.specs.Ground.{no_stand}
use Rattle.framelink.specs.declared.train.Train.{Train}

abbrev pub stands_of : Train → List Stand
stands_of t = items_of t.stands

abbrev pub trains_of : {n : ℕ} → Table Train n → List (List Stand)
trains_of ts = map stands_of (items_of ts)

abbrev pub rear_stand : List Stand → Stand
rear_stand t = slice_index_or t 0 no_stand

abbrev pub front_stand : List Stand → Stand
front_stand t = slice_index_or t (length t - 1) no_stand
