use Rattle.std.proofs.Common.{◌≡◌, length, map, set, ap, ◌∙◌, rules}
use Rattle.std.proofs.lemmas.List.{map-set}
use Rattle.network.specs.Network.{blocks_of}
use Rattle.table.specs.Tables.{items_of}
use Rattle.trackside.specs.Plants.{stored}
use Rattle.framelink.specs.Movements.{train_goes}
use Rattle.framelink.specs.Trains.{stands_of, trains_of}
use Rattle.framelink.proofs.Standing.{longer_there, was_there, one_set}
use Rattle.framelink.proofs.Trains.{found_at}
use Rattle.framelink.proofs.link.FrameLink.occupy.Goals as goal

pub invariant_of-self-clause-there : goal.invariant_of-self-clause-there
invariant_of-self-clause-there c =
    let s = c.args.self.now in
    let ts = items_of s.trains in
    let test = train_goes (stored s.plant) c.args.block in
    let hit = found_at test ts c.first_that_goes.ensures.first c.in-Some.is c.as_slice.ensures.value c.index-as_slice-train.is in
    let n = length (blocks_of s.plant.network) in
    let there = longer_there n c.index-as_slice-train.result c.push.new.self _ c.push.result c.push.ensures (was_there n test ts hit s.there) c.requires in
    one_set n ts (items_of c.set.new.self) c.in-Some.train c.push.new.self c.set.ensures.items s.there there

pub returns : goal.returns
returns c =
    let s = c.args.self.now in
    let ts = items_of s.trains in
    let test = train_goes (stored s.plant) c.args.block in
    let hit = found_at test ts c.first_that_goes.ensures.first c.in-Some.is c.as_slice.ensures.value c.index-as_slice-train.is in
    let changed : trains_of c.set.new.self ≡ set (map stands_of ts) c.in-Some.train (stands_of c.push.new.self) = ap (map stands_of) c.set.ensures.items ∙ map-set stands_of ts _ _ in
    search rules

pub returns-in_err-map_err : goal.returns-in_err-map_err
returns-in_err-map_err c =
    let s = c.args.self.now in
    let ts = items_of s.trains in
    let test = train_goes (stored s.plant) c.args.block in
    let hit = found_at test ts c.first_that_goes.ensures.first c.in-Some.is c.as_slice.ensures.value c.index-as_slice-train.is in
    search rules
