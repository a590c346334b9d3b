use Rattle.std.proofs.Common.{◌++◌, take, codes, decimal}
use Rattle.std.specs.List.{flat_map}
use Rattle.std.specs.Fmt.{HasWritten, IsPlainFormatter}
use Rattle.network.specs.Network.{blocks_of}
use Rattle.report.specs.Texts.{step_text}
use Rattle.report.proofs.accepted.RouteDisplay.fmt.Given as goal

-- the steps so far are written
abbrev pub invariant-loop-step : goal.invariant-loop-step
invariant-loop-step g l =
    IsPlainFormatter l.fn.f
    → HasWritten g.W.Write.write_str_gives l.fn.f ((codes "route " ++ decimal l.fn.self.number) ++ flat_map (step_text (blocks_of l.network)) (take l.step-index l.step-items)) l.f
