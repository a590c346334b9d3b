-- A train that joins, read through the records of the code. Assumes nothing.
use Rattle.std.proofs.Common.{◌≡◌, ℕ, ◌+◌, ◌<◌, ◌≤◌, map, length, set, Some, None, Option, sym, ap, ◌∙◌, ltb}
use Rattle.std.proofs.lemmas.Bool.{cond-true, cond-false, lt-ltb, le-ltb}
use Rattle.std.proofs.lemmas.List.{map-set, length-map}
use Rattle.trackside.specs.declared.answers.Stand.{Stand}
use Rattle.yard.specs.declared.fleet.Fleet.{Fleet}
use Rattle.yard.specs.declared.train.Train.{Train}
use Rattle.yard.specs.Fleets.{Stock, stock, added}
use Rattle.yard.specs.Trains.{kept, blank, extended}

module _ (f : Fleet) (x : Stand) where
  pub joins : (r : Train) → kept r ≡ (extended blank x).1 → f.count < length f.records.now → ◌≡◌ {A = Option ℕ × Stock} (Some f.count, record { records = map kept (set f.records.now f.count r); count = f.count + 1 }) (added (stock f) x)
  joins r e h =
      let there = ap (ltb f.count) (length-map f.records.now kept) ∙ lt-ltb _ _ h in
      let new : map kept (set f.records.now f.count r) ≡ set (map kept f.records.now) f.count (extended blank x).1 = map-set kept f.records.now f.count r ∙ ap (set (map kept f.records.now) f.count) e in
      ap (λ ks. let p : Option ℕ × Stock = (Some f.count, record { records = ks; count = f.count + 1 }) in p) new ∙ sym (cond-true _ _ _ there)

  pub stays : length f.records.now ≤ f.count → ◌≡◌ {A = Option ℕ × Stock} (None, stock f) (added (stock f) x)
  stays h = sym (cond-false _ _ _ (ap (ltb f.count) (length-map f.records.now kept) ∙ le-ltb _ _ h))
