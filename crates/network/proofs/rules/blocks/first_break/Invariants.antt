use Rattle.std.proofs.Common.{◌≡◌, drop}
use Rattle.network.specs.Judge.{first_break}
use Rattle.network.specs.Network.{blocks_of}
use Rattle.network.proofs.rules.blocks.first_break.Given as goal

abbrev pub invariant-loop-i : goal.invariant-loop-i
invariant-loop-i l = first_break (blocks_of l.network) l.rule l.i (drop l.i (blocks_of l.network)) ≡ first_break (blocks_of l.network) l.rule 0 (blocks_of l.network)
