use Rattle.std.proofs.Common.{◌≡◌, ℕ, drop, Bor, Option}
use Rattle.network.specs.declared.track.Block.{Block}
use Rattle.book.specs.declared.refusal.Unfit.{Unfit}
use Rattle.interlocking.specs.Fitness.{first_unfit}
use Rattle.interlocking.proofs.fitness.first_unfit.Given as goal

-- from the block that is reached on, the check says what it says from the first on
abbrev pub invariant-loop-number : goal.invariant-loop-number
invariant-loop-number g l =
    (says : ℕ → Block → Option Unfit) → ((b : ℕ) (x : Bor Block) (r : Option Unfit) → goal.F-post g l.check b x r → r ≡ says b x.now) → first_unfit says l.number (drop l.number l.drawn-items) ≡ first_unfit says 0 l.drawn-items
