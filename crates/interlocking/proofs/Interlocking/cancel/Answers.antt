use Rattle.std.proofs.Common.{rules, ◌≡◌, Ok}
use Rattle.interlocking.specs.Calls.{cancel_guard}
use Rattle.interlocking.proofs.Lit.{cancels}
use Rattle.interlocking.proofs.Interlocking.cancel.Goals as goal

pub returns : goal.returns
returns g c =
    let may : cancel_guard c.args.self.now c.args.route ≡ Ok c.in_ok-steps.steps.now = search rules in
    search (rules, may, cancels)
