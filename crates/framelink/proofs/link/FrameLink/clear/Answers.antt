use Rattle.std.proofs.Common.{◌≡◌, length, map, set, Some, ap, ◌∙◌, rules}
use Rattle.std.proofs.lemmas.List.{map-set}
use Rattle.network.specs.Network.{blocks_of}
use Rattle.table.specs.Tables.{items_of}
use Rattle.trackside.specs.Laws.{without}
use Rattle.trackside.specs.Plants.{stored}
use Rattle.framelink.specs.declared.moving.Clearing.TheVariants.{Shortens}
use Rattle.framelink.specs.Found.{clears_how}
use Rattle.framelink.specs.Movements.{first_with, train_clears}
use Rattle.framelink.specs.Standing.{train_there}
use Rattle.framelink.specs.Trains.{stands_of, trains_of}
use Rattle.framelink.proofs.Standing.{all_less, was_there, one_set, one_less}
use Rattle.framelink.proofs.Trains.{found_at, trains_left}
use Rattle.framelink.proofs.link.FrameLink.clear.Goals as goal

pub shorten-requires : goal.shorten-requires
shorten-requires c =
    let s = c.args.self.now in
    let ts = items_of s.trains in
    let test = train_clears (stored s.plant) c.args.block in
    let found : c.first_that_clears.result ≡ Some (c.in_ok-train.train, c.in_ok-train.how) = search rules in
    let hit = found_at test ts c.first_that_clears.ensures.first found c.as_slice.ensures.value c.index-as_slice-train.is in
    (clears_how (stored s.plant) c.args.block (stands_of c.index-as_slice-train.result) Shortens (hit.gives ∙ ap Some c.in-Shortens.is)).long

pub invariant_of-self-clause-there : goal.invariant_of-self-clause-there
invariant_of-self-clause-there c =
    let s = c.args.self.now in
    let ts = items_of s.trains in
    let test = train_clears (stored s.plant) c.args.block in
    let found : c.first_that_clears.result ≡ Some (c.in_ok-train.train, c.in_ok-train.how) = search rules in
    let hit = found_at test ts c.first_that_clears.ensures.first found c.as_slice.ensures.value c.index-as_slice-train.is in
    let n = length (blocks_of s.plant.network) in
    let there = ap (train_there n) c.shorten.ensures ∙ all_less _ (stands_of c.index-as_slice-train.result) 0 (was_there n test ts hit s.there) in
    one_set n ts (items_of c.set.new.self) c.in_ok-train.train c.shorten.new.self c.set.ensures.items s.there there

pub invariant_of-self-in-Leaves-clause-there : goal.invariant_of-self-in-Leaves-clause-there
invariant_of-self-in-Leaves-clause-there c =
    let s = c.args.self.now in
    one_less (length (blocks_of s.plant.network)) (items_of s.trains) (items_of c.remove.new.self) c.in_ok-train.train c.remove.ensures.items s.there

pub returns-in-Shortens : goal.returns-in-Shortens
returns-in-Shortens c =
    let s = c.args.self.now in
    let ts = items_of s.trains in
    let test = train_clears (stored s.plant) c.args.block in
    let found : c.first_that_clears.result ≡ Some (c.in_ok-train.train, c.in_ok-train.how) = search rules in
    let hit = found_at test ts c.first_that_clears.ensures.first found c.as_slice.ensures.value c.index-as_slice-train.is in
    let changed : trains_of c.set.new.self ≡ set (map stands_of ts) c.in_ok-train.train (stands_of c.shorten.new.self) = ap (map stands_of) c.set.ensures.items ∙ map-set stands_of ts _ _ in
    search rules

pub returns-in-Leaves : goal.returns-in-Leaves
returns-in-Leaves c =
    let s = c.args.self.now in
    let ts = items_of s.trains in
    let k = c.in_ok-train.train in
    let first : first_with (train_clears (stored s.plant) c.args.block) 0 (map stands_of ts) ≡ Some (k, c.in_ok-train.how) = search rules in
    let changed : trains_of c.remove.new.self ≡ without (map stands_of ts) k = ap (map stands_of) c.remove.ensures.items ∙ trains_left ts k in
    search rules
