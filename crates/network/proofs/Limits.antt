-- A network has at most 64 blocks, and a sheet at most 32 routes. Assumes nothing.
use Rattle.std.proofs.Common.{◌≤◌, length, arith}
use Rattle.std.proofs.lemmas.List.{length-map}
use Rattle.table.specs.declared.Table.{Table}
use Rattle.table.specs.Tables.{items_of}
use Rattle.table.proofs.Sizes.{few_items}
use Rattle.network.specs.declared.network.Network.{Network}
use Rattle.network.specs.declared.route.Step.{Step}
use Rattle.network.specs.Network.{blocks_of}
use Rattle.network.specs.Routes.{steps_of, routes_of}

pub few_blocks : (n : Network) → length (blocks_of n) ≤ 64
few_blocks n = few_items n.blocks

pub few_routes : (r : Table (Table Step 24) 32) → length (routes_of r) ≤ 32
few_routes r = let l = few_items r in omega (arith, l, length-map (items_of r) steps_of)
