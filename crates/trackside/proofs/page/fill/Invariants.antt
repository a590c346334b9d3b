use Rattle.std.proofs.Common.{◌≡◌, ◌++◌, drop}
use Rattle.trackside.specs.Pages.{marks, check_of}
use Rattle.trackside.proofs.page.fill.Given as goal

abbrev pub invariant-loop-block : goal.invariant-loop-block
invariant-loop-block g l =
    let as_ground = g.L.Look.as_ground l.looked in
    (l.row ≡ marks as_ground l.block ++ drop l.block l.initial.row) × (l.check ≡ check_of (marks as_ground l.block))
