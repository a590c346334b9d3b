use Rattle.std.proofs.Common.{Ok, sym, ap, ◌∙◌, arith}
use Rattle.trackside.specs.Ground.{shows_green}
use Rattle.trackside.specs.Plants.{stored, with_lamp, light_if}
use Rattle.trackside.proofs.Plants.{few_blocks, lamp_there, some_if}
use Rattle.trackside.proofs.Settings.{lit_lies, lit_shows}
use Rattle.trackside.proofs.plant.Plant.light.Goals as goal

pub bounds-self-block : goal.bounds-self-block
bounds-self-block c =
    let p = c.args.self.now in
    let lamp = sym c.lamp_end.ensures ∙ some_if c.lamp_end.result _ c.in_ok-ok_or.field-0 (sym c.ok_or.ensures.value ∙ c.in_ok-ok_or.was) in
    omega (arith, few_blocks p, lamp_there (stored p) c.args.block _ lamp)

pub returns : goal.returns
returns c =
    let m = stored c.args.self.now in
    let b = c.args.block in
    let l = c.args.lamp in
    let xs = c.args.self.now.settings in
    let lamp = sym c.lamp_end.ensures ∙ some_if c.lamp_end.result _ c.in_ok-ok_or.field-0 (sym c.ok_or.ensures.value ∙ c.in_ok-ok_or.was) in
    (λ i. (Ok tt, record { blocks = m.blocks; positions = lit_lies xs b l i; green = lit_shows xs b l i }))
    ∙ sym (ap (λ o. light_if o m (with_lamp m b (shows_green l))) lamp)
