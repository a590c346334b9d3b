use Rattle.std.proofs.Common.{◌++◌, refl, rules}
use Rattle.std.proofs.Output.{has_written_append, has_written_to_eq}
use Rattle.network.specs.Network.{blocks_of}
use Rattle.network.specs.Sheets.{plan_of}
use Rattle.report.specs.Texts.{route_text, accepted_text}
use Rattle.report.proofs.Writing.{route_written, none_written}
use Rattle.report.proofs.accepted.AcceptedDisplay.fmt.Goals as goal
use Rattle.report.proofs.accepted.AcceptedDisplay.fmt.Goals.{in-Some+in_ok-write, in_default}

pub loop-number-preserved : goal.loop-number-preserved
loop-number-preserved g c = λ plain.
    let p = plan_of c.args.self.now.0.now in
    let n = c.loop-number.number in
    let so_far = c.loop-number.invariant plain in
    elim c.match-route.branch [
      | in-Some+in_ok-write w ↦ (
        so_far.0 ++ route_text (blocks_of c.args.self.now.0.now.network) n w.in-Some.steps.now,
        has_written_to_eq _ _ _ _ _ w.f-is (has_written_append _ _ _ _ _ _ so_far.1 (search rules)),
        route_written p n so_far.0 (accepted_text p) w.in-Some.steps.now _ w.in-Some.ensures so_far.2 refl,
      )
      | in_default w ↦ (so_far.0, has_written_to_eq _ _ _ _ _ w.f-is so_far.1, none_written p n so_far.0 (accepted_text p) w.in_default.ensures so_far.2)
    ]
