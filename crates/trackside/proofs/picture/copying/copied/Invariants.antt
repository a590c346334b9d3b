use Rattle.std.proofs.Common.{◌≡◌}
use Rattle.table.specs.Tables.{items_of}
use Rattle.trackside.specs.Pictures.{seen_of}
use Rattle.trackside.proofs.picture.copying.copied.Given as goal

abbrev pub invariant-loop-block : goal.invariant-loop-block
invariant-loop-block g l = items_of l.glimpses ≡ seen_of (g.L.Look.as_ground l.looked) l.block
