use Rattle.std.proofs.Common.{◌≡◌, ◌+◌, map, refl, rules}
use Rattle.std.specs.List.{copy_within}
use mathlib.Core.List.{map-append}
use Rattle.std.proofs.lemmas.List.{take-map, drop-map}
use Rattle.yard.specs.Trains.{kept}
use Rattle.yard.proofs.fleet.Fleet.take_out.Goals as goal

pub returns-clause-stock : goal.returns-clause-stock
returns-clause-stock c =
    let f = c.args.self.now in
    let closed : map kept (copy_within f.records.now (c.args.train + 1) f.count c.args.train) ≡ copy_within (map kept f.records.now) (c.args.train + 1) f.count c.args.train = simp (map-append, take-map, drop-map) refl in
    search (rules, closed)
