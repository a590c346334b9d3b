-- A link keeps the laws of a trackside. Assumes nothing.
use Rattle.std.specs.Prelude.{◌≡◌, ℕ, zero, suc, ◌-◌, ◌<◌, Bool, true, false, List, [], ◌∷◌, ◌++◌, map, length, get_or, Some, None, Ok, Err, Option, Result, nat_lt, slice_index_or, slice_set, refl}
use Rattle.std.proofs.Common.{sym, subst, inl, inr, arith}
use Rattle.std.proofs.lemmas.Bool.{cond_both}
use Rattle.table.specs.Tables.{items_of}
use Rattle.trackside.specs.declared.answers.Lamp.TheVariants.{Red}
use Rattle.trackside.specs.declared.answers.Moved.{Moved}
use Rattle.trackside.specs.declared.answers.Moved.TheVariants.{Forward, Enter}
use Rattle.trackside.specs.declared.answers.Stuck.{Stuck}
use Rattle.trackside.specs.declared.answers.Fault.{Fault}
use Rattle.trackside.specs.declared.answers.Stand.{Stand}
use Rattle.trackside.specs.Ground.{Ground}
use Rattle.trackside.specs.Laws.{Thrown, Lit, Enters, Forwards, Clears, Moves, Lawful}
use Rattle.trackside.specs.Plants.{Stored, stored, lamp_at, green_at, ground_of, laid, lit}
use Rattle.trackside.proofs.PlantLaws.{Sized, plant_sized, Standing, well_made, laid_thrown, lit_lights}
use Rattle.framelink.specs.declared.fault.LinkFault.{LinkFault}
use Rattle.framelink.specs.declared.frame.Heard.{Heard}
use Rattle.framelink.specs.declared.frame.Change.{Change}
use Rattle.framelink.specs.declared.frame.Change.TheVariants.{Occupied, Cleared}
use Rattle.framelink.specs.declared.link.FrameLink.{FrameLink}
use Rattle.framelink.specs.declared.moving.Clearing.{Clearing}
use Rattle.framelink.specs.declared.moving.Clearing.TheVariants.{Shortens as Shorter, Leaves as Gone}
use Rattle.framelink.specs.declared.train.Train.{Train}
use Rattle.framelink.specs.Faults.{answered}
use Rattle.framelink.specs.Found.{found_here, goes_how, ClearsSo, clears_how}
use Rattle.framelink.specs.Movements.{first_with, train_goes, train_clears, forwarded, enters_at, occupied_with, shrunk, cleared_with}
use Rattle.framelink.specs.Standing.{each_there}
use Rattle.framelink.specs.Trains.{stands_of, trains_of, front_stand}
use Rattle.framelink.specs.Views.{View, view_of, ground_in, link_ground, heard_at, gone_on, changed, acted, LinkThrows, LinkLights, LinkMoves}

-- every train has a stand
abbrev SomeStand : List (List Stand) → Type 0
SomeStand ts = (k : ℕ) → k < length ts → 0 < length (slice_index_or ts k [])

trains_stand : (ts : List Train) → SomeStand (map stands_of ts)
trains_stand [] k h = absurd (omega arith)
trains_stand (t ∷ ts) zero h = t.some_stand
trains_stand (t ∷ ts) (suc k) h = trains_stand ts k (omega arith)

module _ (m : Stored) (s : Sized m) (ts : List (List Stand)) (some : SomeStand ts) where
  abbrev g : Ground
  g = ground_of m ts

  -- a movement of trains alone, and one that changes the plant too
  abbrev ByTrains : Result Moved LinkFault × List (List Stand) → Type 0
  ByTrains r = Moves g (answered r.0) (ground_of m r.1)

  abbrev ByAll : Result Moved LinkFault × Stored × List (List Stand) → Type 0
  ByAll r = Moves g (answered r.0) (ground_of r.1 r.2)

  module _ (c place : ℕ) where
    goes_on : (k f : ℕ) → k < length ts → train_goes m c (slice_index_or ts k []) ≡ Some f → Forwards g k c (ground_of m (slice_set ts k (slice_index_or ts k [] ++ record { block = c; entered = f } ∷ [])))
    goes_on k f l e =
        let t = get_or ts k [] in
        let way = goes_how m c (front_stand t) f e in
        record {
          there = l;
          front = front_stand t;
          is_front = (length t - 1, omega (arith, some k l), refl);
          end = way.end;
          leads = way.leads;
          entered = f;
          across = way.across;
          trains = refl;
          built = record { count = refl; kind = λ b. refl; joint = λ b i. refl };
          points = record { lies = λ b. refl };
          lamps = record { green = λ b. refl };
        }

    forwards : (x : ℕ × ℕ) → x.0 < length ts → train_goes m c (slice_index_or ts x.0 []) ≡ Some x.1 → ByTrains (forwarded ts x.0 (record { block = c; entered = x.1 }) place)
    forwards x l e =
        cond_both (nat_lt (length (slice_index_or ts x.0 [])) 24) (Ok (Forward x.0 c), slice_set ts x.0 (slice_index_or ts x.0 [] ++ record { block = c; entered = x.1 } ∷ [])) _ ByTrains (λ t. goes_on x.0 x.1 l e) (λ t. refl)

    comes : (e : ℕ) → lamp_at m c ≡ Some e → green_at m c ≡ true → Enters g (length ts) c (ground_of (lit m c Red).1 (ts ++ (record { block = c; entered = e } ∷ []) ∷ []))
    comes e at green =
        let darkened = lit_lights m s ts c Red (lit m c Red).0 (lit m c Red).1 refl in
        record {
          end = e;
          at = at;
          lit = green;
          number = refl;
          trains = refl;
          red = darkened.lands;
          others = darkened.others;
          built = record { count = darkened.built.count; kind = darkened.built.kind; joint = darkened.built.joint };
          points = record { lies = darkened.points.lies };
        }

    enters : (o : Option ℕ) (u : Bool) → lamp_at m c ≡ o → green_at m c ≡ u → ByAll (enters_at o u m ts c place)
    enters None u e f = refl
    enters (Some i) true e f =
        cond_both (nat_lt (length ts) 16) (Ok (Enter (length ts) c), (lit m c Red).1, ts ++ (record { block = c; entered = i } ∷ []) ∷ []) _ ByAll (λ t. comes i e f) (λ t. refl)
    enters (Some i) false e f = refl

    occupies : (o : Option (ℕ × ℕ)) → first_with (train_goes m c) 0 ts ≡ o → ByAll (occupied_with o m ts c place)
    occupies None e = enters (lamp_at m c) (green_at m c) refl refl
    occupies (Some x) e = let hit = found_here (train_goes m c) [] ts x e in forwards x hit.0 hit.1

    shrinks : (y : Clearing) (k : ℕ) → k < length ts → ClearsSo y m c (slice_index_or ts k []) → Clears g k c (ground_of m (shrunk y ts k))
    shrinks Shorter k l w = record {
      there = l;
      rear = w.rear;
      how = inl (record { long = w.long; trains = refl });
      built = record { count = refl; kind = λ b. refl; joint = λ b i. refl };
      points = record { lies = λ b. refl };
      lamps = record { green = λ b. refl };
    }
    shrinks Gone k l w = record {
      there = l;
      rear = w.rear;
      how = inr (record { short = omega (arith, some k l, w.short); end = w.end; leads = w.leads; out = w.out; trains = refl });
      built = record { count = refl; kind = λ b. refl; joint = λ b i. refl };
      points = record { lies = λ b. refl };
      lamps = record { green = λ b. refl };
    }

    clears : (o : Option (ℕ × Clearing)) → first_with (train_clears m c) 0 ts ≡ o → ByTrains (cleared_with o ts c place)
    clears None e = refl
    clears (Some x) e = let hit = found_here (train_clears m c) [] ts x e in shrinks x.1 x.0 hit.0 (clears_how m c (slice_index_or ts x.0 []) x.1 hit.1)

module _ (v : View) (s : Sized v.plant) (some : SomeStand v.trains) where
  changes : (c : Change) (b : ℕ) → Moves (ground_in v) (answered (changed c b (gone_on v) v.at).0) (ground_in (changed c b (gone_on v) v.at).1)
  changes Occupied b = occupies v.plant s v.trains some b v.at (first_with (train_goes v.plant b) 0 v.trains) refl
  changes Cleared b = clears v.plant s v.trains some b v.at (first_with (train_clears v.plant b) 0 v.trains) refl

  acts : (h : Result (Option Heard) LinkFault) → Moves (ground_in v) (answered (acted h (gone_on v) v.at).0) (ground_in (acted h (gone_on v) v.at).1)
  acts (Err f) = refl
  acts (Ok None) = refl
  acts (Ok (Some h)) = changes h.change h.block

standing : (l : FrameLink) → Standing (stored l.plant) (trains_of l.trains)
standing l = record { some_stand = trains_stand (items_of l.trains); stands = each_there (length (stored l.plant).blocks) (trains_of l.trains) l.there }

pub link_lawful : Lawful 32 link_ground LinkThrows LinkLights LinkMoves
link_lawful = record {
  made = λ l. well_made 32 (stored l.plant) (trains_of l.trains) l.carried (plant_sized l.plant) (standing l);
  live = λ l. inl (λ b. refl);
  throwing = λ l t b p a h.
      let r = laid (stored l.plant) b p in
      subst (λ (x : Result Unit Stuck × View). Thrown (link_ground l) b p x.0 (ground_in x.1)) (sym h) (laid_thrown (stored l.plant) (plant_sized l.plant) (trains_of l.trains) b p r.0 r.1 refl);
  lighting = λ l t b k a h.
      let r = lit (stored l.plant) b k in
      subst (λ (x : Result Unit Stuck × View). Lit (link_ground l) b k x.0 (ground_in x.1)) (sym h) (lit_lights (stored l.plant) (plant_sized l.plant) (trains_of l.trains) b k r.0 r.1 refl);
  moving = λ l t m h.
      subst (λ (x : Result Moved Fault × View). Moves (link_ground l) x.0 (ground_in x.1)) (sym h) (acts (view_of l) (plant_sized l.plant) (trains_stand (items_of l.trains)) (heard_at (view_of l)));
}
