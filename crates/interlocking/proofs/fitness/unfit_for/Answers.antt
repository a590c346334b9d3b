use Rattle.std.proofs.Common.{rules}
use Rattle.interlocking.specs.Fitness.{differs, occupied, lit}
use Rattle.interlocking.proofs.fitness.unfit_for.Goals as goal

pub returns : goal.returns
returns g c =
    let see = g.T.Look.as_ground c.args.trackside.now in
    let alike = c.first_unfit.ensures (differs see) (λ b x r k. search rules) in
    let empty = c.first_unfit-2.ensures (λ b x. occupied see b) (λ b x r k. search rules) in
    let dark = c.first_unfit-3.ensures (λ b x. lit see b) (λ b x r k. search rules) in
    search rules
