-- One more step of a route that is laid. Assumes nothing.
use Rattle.std.proofs.Common.{◌≡◌, ℕ, ◌+◌, ◌<◌, ◌≤◌, List, [], ◌∷◌, length, get_or, drop, Some, None, Ok, Err, Result, refl, add-one, drop-cons}
use Rattle.std.proofs.lemmas.List.{drop_all}
use Rattle.network.specs.declared.route.Step.{Step}
use Rattle.network.specs.declared.track.Position.{Position}
use Rattle.trackside.specs.declared.answers.Stuck.{Stuck}
use Rattle.trackside.specs.declared.Look.{Ghosts}
use Rattle.book.specs.declared.refusal.Refusal.{Refusal}
use Rattle.book.specs.declared.refusal.Refusal.TheVariants.{PointStuck}
use Rattle.interlocking.specs.Points.{wrong_at, Laying, laid, lies, thrown, stuck}

module _ {S : Type 0} {L : Ghosts S} (steps : List Step) (i : ℕ) (d : Step) (within : i < length steps) where
  at_step : {s t : S} {n : ℕ} {a : Result ℕ Refusal} → Laying L (get_or steps i d ∷ drop (i + 1) steps) s n a t → Laying L (drop i steps) s n a t
  at_step h = rw (drop-cons steps i d, ← add-one) h

  pub stops_stuck : {s u : S} {n : ℕ} {e : Stuck} (p : Position) → wrong_at (L.as_ground s) (get_or steps i d) ≡ Some p → L.throws s (get_or steps i d).block p (Err e) u → Laying L (drop i steps) s n (Err (PointStuck (get_or steps i d).block)) u
  stops_stuck p w h = at_step (record { acts = _; chain = record { led = (_, h, refl) }; lays = stuck w h })

  pub goes_on : {s t : S} {n : ℕ} {a : Result ℕ Refusal} → wrong_at (L.as_ground s) (get_or steps i d) ≡ None → Laying L (drop (i + 1) steps) s n a t → Laying L (drop i steps) s n a t
  goes_on w l = at_step (record { acts = l.acts; chain = l.chain; lays = lies w l.lays })

  pub goes_on_thrown : {s u t : S} {n : ℕ} {a : Result ℕ Refusal} (p : Position) → wrong_at (L.as_ground s) (get_or steps i d) ≡ Some p → L.throws s (get_or steps i d).block p (Ok tt) u → Laying L (drop (i + 1) steps) u (n + 1) a t → Laying L (drop i steps) s n a t
  goes_on_thrown p w h l = at_step (record { acts = _; chain = record { led = (_, h, l.chain.led) }; lays = thrown w h l.lays })

pub ends_laid : {S : Type 0} {L : Ghosts S} (steps : List Step) (i : ℕ) → length steps ≤ i → {s : S} {n : ℕ} → Laying L (drop i steps) s n (Ok n) s
ends_laid steps i l = rw (drop_all i steps l) (record { acts = []; chain = record { led = refl }; lays = laid })
