-- What a yard knows of a train that it found, and of its trains once a wish was met. Assumes nothing.
use Rattle.std.proofs.Common.{◌≡◌, ℕ, ◌<◌, true, length, slice_index_or, Some, Option, Result, option_map, sym, ap, subst, ◌∙◌}
use Rattle.table.specs.Tables.{Kept}
use Rattle.trackside.specs.declared.answers.Moved.{Moved}
use Rattle.trackside.specs.declared.answers.Stand.{Stand}
use Rattle.yard.specs.declared.Yard.{Yard}
use Rattle.yard.specs.declared.fault.YardFault.{YardFault}
use Rattle.yard.specs.declared.train.Train.{Train}
use Rattle.yard.specs.declared.wish.Wish.{Wish}
use Rattle.yard.specs.Fleets.{stock, found}
use Rattle.yard.specs.MoveLaws.{granting}
use Rattle.yard.specs.TrainLaws.{found_is, has_stand}
use Rattle.yard.specs.Trains.{kept, stands_of, blank}
use Rattle.yard.specs.Views.{View, view, sound, granted}
use Rattle.yard.specs.YardLaws.{sized, all_fit}

module _ (y : Yard) (t : ℕ) (o : Option Train) (got : option_map kept o ≡ found (stock y.fleet) t) (r : Train) (one : o ≡ Some r) where
  is : (t < y.fleet.count) × (kept r ≡ slice_index_or (stock y.fleet).records t blank)
  is = found_is (stock y.fleet) t (kept r) (sym (ap (option_map kept) one) ∙ got)

  pub is_there : t < y.fleet.count
  is_there = is.0

  pub some_stands : 0 < length (stands_of (kept r))
  some_stands = subst (λ (k : Kept Stand). 0 < length (stands_of k)) (sym is.1) (has_stand (length (view y).plant.blocks) (stock y.fleet) y.sound t is_there)

pub still_sound : (y : Yard) (w : Wish) (a : Result Moved YardFault) (v : View) → ◌≡◌ {A = Result Moved YardFault × View} (a, v) (granted w (view y)) → sound v ≡ true
still_sound y w a v e = subst (λ (r : Result Moved YardFault × View). sound r.1 ≡ true) (sym e) (granting (view y) (sized y) (all_fit y) y.sound w).0
