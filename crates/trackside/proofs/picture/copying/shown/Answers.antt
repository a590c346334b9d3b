use Rattle.std.proofs.Common.{arith}
use Rattle.trackside.proofs.Pictures.{picture_shows}
use Rattle.trackside.proofs.picture.copying.shown.Goals as goal

pub copied-requires : goal.copied-requires
copied-requires g c = omega (arith, (g.L.Look.lawful.made c.args.looked.now).few, c.block_count.ensures)

pub returns : goal.returns
returns g c =
    let s = c.args.looked.now in
    picture_shows g.L.Look.most (g.L.Look.as_ground s) (g.L.Look.lawful.made s) _ c.block_count.result c.block_count.ensures c.copied.ensures
