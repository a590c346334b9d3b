-- The blocks of a network, as a list. Assumes nothing.
use Rattle.std.specs.Prelude.{List}
use Rattle.table.specs.Tables.{items_of}
use Rattle.network.specs.declared.track.Block.{Block}
use Rattle.network.specs.declared.network.Network.{Network}

abbrev pub blocks_of : Network → List Block
blocks_of n = items_of n.blocks
