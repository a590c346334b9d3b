-- A yard keeps the laws of a trackside. Assumes nothing.
use Rattle.std.specs.Prelude.{◌≡◌, ℕ, ◌<◌, Bool, true, false, cond, List, [], ◌∷◌, length, Some, None, Ok, Err, Option, Result, slice_index_or, refl}
use Rattle.std.proofs.Common.{sym, ap, subst, ◌∙◌, inl, inr, arith}
use Rattle.std.proofs.lemmas.List.{length-map, get_or_past}
use Rattle.std.proofs.lemmas.Bool.{cases_lt}
use Rattle.network.specs.declared.track.Kind.{Kind}
use Rattle.network.specs.declared.track.Kind.TheVariants.{Plain, Point, Crossing}
use Rattle.network.specs.declared.track.Position.{Position}
use Rattle.network.specs.declared.track.Position.TheVariants.{Left, Right}
use Rattle.network.proofs.BlockRules.{is_and_not}
use Rattle.trackside.specs.declared.answers.Fault.{Fault}
use Rattle.trackside.specs.declared.answers.Lamp.{Lamp}
use Rattle.trackside.specs.declared.answers.Lamp.TheVariants.{Red, Green}
use Rattle.trackside.specs.declared.answers.Moved.{Moved}
use Rattle.trackside.specs.declared.answers.Stuck.{Stuck}
use Rattle.trackside.specs.declared.answers.Stand.{Stand}
use Rattle.trackside.specs.Laws.{Lawful, LiesAsTold, Thrown, Lit, Moves}
use Rattle.trackside.specs.Plants.{Stored, kind_at, lies_at, lamp_at, green_if, green_at, ground_of, stuck, lay_if, laid, light_if, lit}
use Rattle.trackside.proofs.Plants.{few_blocks}
use Rattle.trackside.proofs.PlantLaws.{Sized, Standing, plant_sized, unthrown, laid_thrown, unlit, lit_lights, well_made}
use Rattle.yard.specs.declared.Yard.{Yard}
use Rattle.yard.specs.declared.wish.Wish.{Wish}
use Rattle.yard.specs.Fleets.{trains_of}
use Rattle.yard.specs.MoveLaws.{granting}
use Rattle.yard.specs.Sound.{trains_on}
use Rattle.yard.specs.Steps.{Throws, Lights, Steps}
use Rattle.yard.specs.TrainLaws.{Fit, fit_at, some_stand, each_stand, each_train, on_blocks}
use Rattle.yard.specs.Trains.{kept, blank}
use Rattle.yard.specs.Views.{View, view, sound, ground_seen, yard_ground, with_plant, with_wishes, named, same_position, done_if, held_if, held, told, lit_by, served_to, moved_by}

-- what is known of any yard: its tables are large enough, and its records fit
pub sized : (y : Yard) → Sized (view y).plant
sized y = plant_sized y.plant.now

pub all_fit : (y : Yard) (t : ℕ) → t < length (view y).trains.records → Fit (slice_index_or (view y).trains.records t blank)
all_fit y t h = fit_at y.fleet.records.now t (omega (arith, h, length-map y.fleet.records.now kept))

-- trains on blocks that are there stand there
standing : (m : Stored) (ts : List (List Stand)) → trains_on (length m.blocks) ts ≡ true → Standing m ts
standing m ts h = record {
  some_stand = λ k l. some_stand (length m.blocks) (slice_index_or ts k []) (each_train (length m.blocks) ts k h l);
  stands = λ k i l. elim (cases_lt k (length ts)) [
    | inl there ↦ each_stand (length m.blocks) (slice_index_or ts k []) i (each_train (length m.blocks) ts k h there) l
    | inr past ↦ absurd (omega (arith, l, ap length (get_or_past ts k [] past)))
  ];
}

not_done : ◌≡◌ {A = Result Unit Stuck} (Err stuck) (Ok tt) → ⊥
not_done e = let z : ◌≡◌ {A = ℕ} 0 1 = cc in omega arith

-- a clamped point stays as it lies
same_then : (q p : Position) → done_if (same_position q p) ≡ Ok tt → q ≡ p
same_then Left Left d = refl
same_then Left Right d = absurd (not_done d)
same_then Right Left d = absurd (not_done d)
same_then Right Right d = refl

then_same : (p : Position) → done_if (same_position p p) ≡ Ok tt
then_same Left = refl
then_same Right = refl

module _ (m : Stored) (ts : List (List Stand)) (b : ℕ) (p : Position) where
  held_told : (k : Option Kind) → kind_at m b ≡ k → held_if k (same_position (lies_at m b) p) ≡ Ok tt → LiesAsTold (ground_of m ts) b p
  held_told None e d = absurd (not_done d)
  held_told (Some Plain) e d = absurd (not_done d)
  held_told (Some Point) e d = (e, same_then (lies_at m b) p d)
  held_told (Some Crossing) e d = absurd (not_done d)

  held_done : LiesAsTold (ground_of m ts) b p → held m b p ≡ Ok tt
  held_done l =
      ap (λ k. held_if k (same_position (lies_at m b) p)) l.0
      ∙ ap (λ q. done_if (same_position q p)) l.1
      ∙ then_same p

  held_throws : Thrown (ground_of m ts) b p (held m b p) (ground_of m ts)
  held_throws = unthrown m ts b p (held m b p) (held_told (kind_at m b) refl) held_done

-- what is told to the plant keeps its blocks
laid_blocks : (k : Option Kind) (m n : Stored) → n.blocks ≡ m.blocks → (lay_if k m n).1.blocks ≡ m.blocks
laid_blocks None m n e = refl
laid_blocks (Some Plain) m n e = refl
laid_blocks (Some Point) m n e = e
laid_blocks (Some Crossing) m n e = refl

lit_blocks : (o : Option ℕ) (m n : Stored) → n.blocks ≡ m.blocks → (light_if o m n).1.blocks ≡ m.blocks
lit_blocks None m n e = refl
lit_blocks (Some f) m n e = e

module _ (v : View) (z : Sized v.plant) where
  module _ (b : ℕ) (p : Position) where
    laying : Thrown (ground_seen v) b p (laid v.plant b p).0 (ground_seen (with_plant v (laid v.plant b p).1))
    laying = laid_thrown v.plant z (trains_of v.trains) b p (laid v.plant b p).0 (laid v.plant b p).1 refl

    throwing_by : (c : Bool) → Thrown (ground_seen v) b p (cond c (held v.plant b p, v) (told v (laid v.plant b p))).0 (ground_seen (cond c (held v.plant b p, v) (told v (laid v.plant b p))).1)
    throwing_by true = held_throws v.plant (trains_of v.trains) b p
    throwing_by false = laying

  module _ (b : ℕ) where
    lighting_plant : (l : Lamp) → Lit (ground_seen v) b l (lit v.plant b l).0 (ground_seen (with_plant v (lit v.plant b l).1))
    lighting_plant l = lit_lights v.plant z (trains_of v.trains) b l (lit v.plant b l).0 (lit v.plant b l).1 refl

    lamp_of_green : (o : Option ℕ) (g : Bool) → green_if o g ≡ true → (e : ℕ) × (o ≡ Some e)
    lamp_of_green None g h = absurd (is_and_not h refl)
    lamp_of_green (Some e) g h = (e, refl)

    done_true : (g : Bool) → done_if g ≡ Ok tt → g ≡ true
    done_true true d = refl
    done_true false d = absurd (not_done d)

    -- a dead lamp stays as it is
    dead_lights : Lit (ground_seen v) b Green (done_if (green_at v.plant b)) (ground_seen v)
    dead_lights = unlit v.plant z (trains_of v.trains) b Green (done_if (green_at v.plant b)) (inr refl)
        (λ d. let g = done_true (green_at v.plant b) d in (lamp_of_green (lamp_at v.plant b) (slice_index_or v.plant.green b false) g, g))
        (λ t. ap done_if t.1)

    lighting_green : (c : Bool) → Lit (ground_seen v) b Green (cond c (done_if (green_at v.plant b), v) (told v (lit v.plant b Green))).0 (ground_seen (cond c (done_if (green_at v.plant b), v) (told v (lit v.plant b Green))).1)
    lighting_green true = dead_lights
    lighting_green false = lighting_plant Green

    lighting_by : (l : Lamp) → Lit (ground_seen v) b l (lit_by v b l).0 (ground_seen (lit_by v b l).1)
    lighting_by Red = lighting_plant Red
    lighting_by Green = lighting_green (named v.dead b)

module _ (v : View) (z : Sized v.plant) (fit : (t : ℕ) → t < length v.trains.records → Fit (slice_index_or v.trains.records t blank)) (h : sound v ≡ true) where
  serving : (ws : List Wish) → (sound (served_to ws v).1 ≡ true) × Moves (ground_seen v) (served_to ws v).0 (ground_seen (served_to ws v).1)
  serving [] = (h, refl)
  serving (w ∷ ws) = granting (with_wishes v ws) z fit h w

  pub moved_sound : sound (moved_by v).1 ≡ true
  moved_sound = (serving v.wishes).0

pub yard_lawful : Lawful 64 yard_ground Throws Lights Steps
yard_lawful = record {
  made = λ y. well_made 64 (view y).plant (trains_of (view y).trains) (few_blocks y.plant.now) (sized y) (standing (view y).plant (trains_of (view y).trains) (on_blocks (length (view y).plant.blocks) (view y).trains y.sound));
  live = λ y. inl (λ b. refl);
  throwing = λ s t b p a r. subst (λ (x : Result Unit Stuck × View). Thrown (yard_ground s) b p x.0 (ground_seen x.1)) (sym r.is) (throwing_by (view s) (sized s) b p (named s.clamped b));
  lighting = λ s t b l a r. subst (λ (x : Result Unit Stuck × View). Lit (yard_ground s) b l x.0 (ground_seen x.1)) (sym r.is) (lighting_by (view s) (sized s) b l);
  moving = λ s t m r. subst (λ (x : Result Moved Fault × View). Moves (yard_ground s) x.0 (ground_seen x.1)) (sym r.is) (serving (view s) (sized s) (all_fit s) s.sound (view s).wishes).1;
}
