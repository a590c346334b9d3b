use Rattle.std.proofs.Common.{◌≡◌, drop}
use Rattle.network.specs.Joints.{towards_from}
use Rattle.network.specs.Track.{ends_of}
use Rattle.network.proofs.rules.blocks.towards.Given as goal

abbrev pub invariant-loop-end : goal.invariant-loop-end
invariant-loop-end l = towards_from l.end (drop l.end (ends_of l.block)) l.next ≡ towards_from 0 (ends_of l.block) l.next
