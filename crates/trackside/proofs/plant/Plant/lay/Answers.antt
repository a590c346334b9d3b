use Rattle.std.proofs.Common.{Ok, Some, sym, ap, ◌∙◌, arith}
use Rattle.trackside.specs.Plants.{stored, with_position, lay_if}
use Rattle.trackside.proofs.Plants.{few_blocks, kind_there}
use Rattle.trackside.proofs.Settings.{laid_lies, laid_shows}
use Rattle.trackside.proofs.plant.Plant.lay.Goals as goal

pub bounds-self-block : goal.bounds-self-block
bounds-self-block c = let p = c.args.self.now in omega (arith, few_blocks p, kind_there (stored p) c.args.block _ (sym c.in-Some-Point.ensures))

pub returns-in-Some-Point : goal.returns-in-Some-Point
returns-in-Some-Point c =
    let m = stored c.args.self.now in
    let b = c.args.block in
    let q = c.args.position in
    let xs = c.args.self.now.settings in
    (λ i. (Ok tt, record { blocks = m.blocks; positions = laid_lies xs b q i; green = laid_shows xs b q i }))
    ∙ ap (λ k. lay_if k m (with_position m b q)) (sym (ap Some c.in-Some-Point.field-0-is) ∙ c.in-Some-Point.ensures)
