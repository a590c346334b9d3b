use Rattle.std.proofs.Common.{◌≡◌, ℕ, List, ◌++◌, drop}
use Rattle.std.specs.Fmt.{HasWritten, IsPlainFormatter}
use Rattle.network.specs.Sheets.{plan_of}
use Rattle.report.specs.Texts.{routes_text, accepted_text}
use Rattle.report.proofs.accepted.AcceptedDisplay.fmt.Given as goal

-- with the lines of the routes from here on, the text is whole
abbrev pub invariant-loop-number : goal.invariant-loop-number
invariant-loop-number g l =
    let p = plan_of l.sheet in
    IsPlainFormatter l.fn.f
    → (done : List ℕ) × HasWritten g.W.Write.write_str_gives l.fn.f done l.f × (done ++ routes_text p.blocks l.number (drop l.number p.routes) ≡ accepted_text p)
