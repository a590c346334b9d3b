-- What is declared: blocks, and routes by their block numbers, within the limits. Assumes nothing.
use Rattle.std.specs.Prelude.{ℕ, cond, List, [], ◌∷◌, ◌++◌, map, length, Ok, Err, Result, nat_lt}
use Rattle.network.specs.declared.track.Block.{Block}
use Rattle.table.specs.declared.Table.{Table}
use Rattle.table.specs.Tables.{items_of}
use Rattle.network.specs.declared.drawing.Drawing.{Drawing}
use Rattle.network.specs.declared.drawing.Limit.{Limit}
use Rattle.network.specs.declared.drawing.Limit.TheVariants.{Blocks, Routes, Length}
use Rattle.network.specs.Network.{blocks_of}

-- blocks by number; routes by number, each as the numbers of its blocks in order
pub record Declared : Type 0 where
  pub blocks : List Block
  pub routes : List (List ℕ)

abbrev pub numbers_of : Table ℕ 24 → List ℕ
numbers_of l = items_of l

abbrev pub lists_of : Table (Table ℕ 24) 32 → List (List ℕ)
lists_of l = map numbers_of (items_of l)

abbrev pub drawn : Drawing → Declared
drawn d = record { blocks = blocks_of d.network; routes = lists_of d.lists }

abbrev pub empty : Declared
empty = record { blocks = []; routes = [] }

abbrev pub with_block : Declared → Block → Declared
with_block d b = record { blocks = d.blocks ++ b ∷ []; routes = d.routes }

abbrev pub with_route : Declared → List ℕ → Declared
with_route d r = record { blocks = d.blocks; routes = d.routes ++ r ∷ [] }

-- at most 64 blocks
abbrev pub add_to : List Block → Block → Result Unit Limit × List Block
add_to bs b = cond (nat_lt (length bs) 64) (Ok tt, bs ++ b ∷ []) (Err Blocks, bs)

abbrev pub add_block : Declared → Block → Result Unit Limit × Declared
add_block d b = cond (nat_lt (length d.blocks) 64) (Ok tt, with_block d b) (Err Blocks, d)

-- at most 24 blocks in a route
abbrev pub list_of : List ℕ → Result (List ℕ) Limit
list_of r = cond (nat_lt 24 (length r)) (Err Length) (Ok r)

abbrev pub listed_or : Result (Table ℕ 24) Limit → Result (List ℕ) Limit
listed_or (Ok l) = Ok (numbers_of l)
listed_or (Err e) = Err e

-- and at most 32 routes
abbrev pub add_route : Declared → List ℕ → Result Unit Limit × Declared
add_route d r = cond (nat_lt 24 (length r)) (Err Length, d) (cond (nat_lt (length d.routes) 32) (Ok tt, with_route d r) (Err Routes, d))
