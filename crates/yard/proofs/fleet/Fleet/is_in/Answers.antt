use Rattle.std.proofs.Common.{map, take, rules, tests, ap, ◌∙◌, sym}
use Rattle.std.proofs.lemmas.Iterator.{YieldsList-from_slice}
use Rattle.std.proofs.lemmas.Iterator.Search.{any_from_yields_List}
use Rattle.std.proofs.lemmas.List.{take-map}
use Rattle.trackside.specs.Ground.{stands_in, any_stands_in}
use Rattle.yard.specs.declared.train.Train.{Train}
use Rattle.yard.specs.Trains.{kept, stands_of}
use Rattle.yard.proofs.Looks.{train_in}
use Rattle.yard.proofs.fleet.Fleet.is_in.Goals as goal

pub returns : goal.returns
returns c =
    let f = c.args.self.now in
    let b = c.args.block in
    any_from_yields_List (λ (t : Train). stands_in (stands_of (kept t)) b) _ _ c.any.result c.any.ensures.ran (YieldsList-from_slice (take f.count f.records.now) cc) (λ x b q k. search (rules, tests))
    ∙ train_in (take f.count f.records.now) b
    ∙ ap (λ ks. any_stands_in (map stands_of ks) b) (sym (take-map kept f.count f.records.now))
