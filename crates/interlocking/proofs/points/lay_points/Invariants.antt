use Rattle.std.proofs.Common.{ℕ, ◌≤◌, drop, Result}
use Rattle.book.specs.declared.refusal.Refusal.{Refusal}
use Rattle.interlocking.specs.Points.{Laying}
use Rattle.interlocking.proofs.points.lay_points.Given as goal

-- what is laid from here on is laid from the start
abbrev pub invariant-loop-step : goal.invariant-loop-step
invariant-loop-step g l =
    (l.thrown ≤ l.step-index) × ((a : Result ℕ Refusal) (t : g.row.T.Denot) → Laying g.T.Look (drop l.step-index l.steps) l.trackside l.thrown a t → Laying g.T.Look l.steps l.initial.trackside 0 a t)
