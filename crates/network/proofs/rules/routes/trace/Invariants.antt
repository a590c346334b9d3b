use Rattle.std.proofs.Common.{◌≡◌, ◌+◌, ◌≤◌, length}
use Rattle.table.specs.Tables.{items_of}
use Rattle.network.specs.Network.{blocks_of}
use Rattle.network.specs.Judge.{traced, after_steps}
use Rattle.network.proofs.rules.routes.trace.Given as goal

abbrev pub invariant-loop-number : goal.invariant-loop-number
invariant-loop-number l =
    record { traces : after_steps (items_of l.steps) (traced (blocks_of l.network) l.end l.rest) ≡ traced (blocks_of l.network) l.entered (items_of l.listed); room : length (items_of l.steps) + length l.rest ≤ 24 }

abbrev pub decreases-loop-number : goal.decreases-loop-number
decreases-loop-number l = length l.rest
