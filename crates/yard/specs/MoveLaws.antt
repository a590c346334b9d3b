-- Each move of a yard is a move that a trackside may make, and leaves the trains on the plant. Assumes nothing.
use Rattle.std.specs.Prelude.{◌≡◌, ℕ, ◌-◌, ◌<◌, ◌≤◌, Bool, true, false, ◌⊎◌, List, [], ◌∷◌, ◌++◌, length, get_or, drop, set, Some, None, Ok, Err, Option, Result, cond, nat_le, nat_lt, slice_index_or, slice_set, refl}
use Rattle.std.proofs.Common.{sym, ap, subst, ◌∙◌, inl, inr, arith}
use Rattle.std.proofs.lemmas.List.{get_or-set_same, get_or-set_other}
use Rattle.std.proofs.lemmas.Bool.{cases_Bool, cond-true, cond-false, ltb-true, leb-true, leb-false}
use Rattle.network.specs.declared.track.Joint.{Joint}
use Rattle.network.specs.declared.track.Joint.TheVariants.{Outer, Joined}
use Rattle.network.proofs.BlockRules.{clash, is_and_not}
use Rattle.table.specs.Tables.{Kept, no_room}
use Rattle.trackside.specs.declared.answers.Moved.{Moved}
use Rattle.trackside.specs.declared.answers.Stand.{Stand}
use Rattle.trackside.specs.Ground.{no_stand, train, way_on}
use Rattle.trackside.specs.Laws.{Enters, Forwards, Shortens, Leaves, Clears, Moves}
use Rattle.trackside.specs.Plants.{Stored, joint_at, lamp_at, green_if, green_at, way_at, ground_of, with_lamp}
use Rattle.trackside.proofs.Plants.{lamp_there}
use Rattle.trackside.proofs.PlantLaws.{Sized}
use Rattle.yard.specs.declared.fault.YardFault.{YardFault}
use Rattle.yard.specs.declared.wish.Wish.{Wish}
use Rattle.yard.specs.declared.wish.Wish.TheVariants.{Enter, Forward, Clear}
use Rattle.yard.specs.Fleets.{Stock, trains_of, found, with_train, one_added, taken_out}
use Rattle.yard.specs.Sound.{stands_on, sound_on}
use Rattle.yard.specs.TrainLaws.{Fit, more_stands, fewer_stands, how_long, found_is, how_many, train_at, trains_with, trains_out, trains_added, one_more, one_fewer, recorded, kept_on, sound_added, sound_with, sound_out, some_stand}
use Rattle.yard.specs.Trains.{stands_of, blank, extended, shortened, front_of, rear_of}
use Rattle.yard.specs.Views.{View, sound, ground_seen, entered_by, entered_if, across, next_by, next_of, is_out, out_by, leads_out, forwarded_to, forwarded_if, forwarded_found, cleared_if, cleared_found, granted, moved_of}

-- where a way leads on
module _ (m : Stored) (b : ℕ) (x : Stand) where
  abbrev LeadsOn : ℕ → Type 0
  LeadsOn e = (joint_at m b e ≡ Joined x.block x.entered) × (x.block < length m.blocks)

  across_is : (e : ℕ) (j : Joint) → joint_at m b e ≡ j → across m j ≡ Some x → LeadsOn e
  across_is e Outer h n = absurd (clash refl n)
  across_is e (Joined c f) h n = elim (cases_Bool (nat_lt c (length m.blocks))) [
    | inl l ↦
        let y : Stand = record { block = c; entered = f } in
        let some : ◌≡◌ {A = Option Stand} (Some y) (Some x) = sym (cond-true _ _ _ l) ∙ n in
        let same : y ≡ x = cc in
        (h ∙ ap (λ (s : Stand). Joined s.block s.entered) same, subst (λ (s : Stand). s.block < length m.blocks) same (ltb-true c (length m.blocks) l))
    | inr l ↦ absurd (clash (cond-false (nat_lt c (length m.blocks)) (Some (record { block = c; entered = f })) None l) n)
  ]

  next_is : (o : Option ℕ) → next_by m b o ≡ Some x → (e : ℕ) × (o ≡ Some e) × LeadsOn e
  next_is None n = absurd (clash refl n)
  next_is (Some e) n = (e, refl, across_is e (joint_at m b e) refl n)

module _ (m : Stored) (b : ℕ) where
  out_is : (j : Joint) → is_out j ≡ true → j ≡ Outer
  out_is Outer h = refl
  out_is (Joined c f) h = absurd (is_and_not h refl)

  leaves_is : (o : Option ℕ) → out_by m b o ≡ true → (e : ℕ) × (o ≡ Some e) × (joint_at m b e ≡ Outer)
  leaves_is None h = absurd (is_and_not h refl)
  leaves_is (Some e) h = (e, refl, out_is (joint_at m b e) h)

module _ (v : View) (z : Sized v.plant) (fit : (t : ℕ) → t < length v.trains.records → Fit (slice_index_or v.trains.records t blank)) (h : sound v ≡ true) where
  -- an answer and a yard after it keep the laws
  abbrev KeptLaws : Result Moved YardFault × View → Type 0
  KeptLaws r = (sound r.1 ≡ true) × Moves (ground_seen v) (moved_of r.0) (ground_seen r.1)

  abbrev blocks : ℕ
  blocks = length v.plant.blocks

  enough : v.trains.count ≤ length v.trains.records
  enough = recorded blocks v.trains h

  module _ (b : ℕ) where
    module _ (e : ℕ) (at : lamp_at v.plant b ≡ Some e) (lit : green_at v.plant b ≡ true) where
      abbrev stand : Stand
      stand = record { block = b; entered = e }

      enters : v.trains.count < length v.trains.records → Enters (ground_seen v) v.trains.count b (ground_of (with_lamp v.plant b false) (trains_of (one_added v.trains stand)))
      enters free = record {
        end = e;
        at = at;
        lit = lit;
        number = sym (how_many v.trains enough);
        trains = trains_added v.trains stand free;
        red = ap (λ o. green_if o (slice_index_or (slice_set v.plant.green b false) b false)) at ∙ get_or-set_same v.plant.green b false false (omega (arith, lamp_there v.plant b e at, z.few, z.green));
        others = λ c n. ap (green_if (lamp_at v.plant c)) (get_or-set_other v.plant.green b c false false n);
        built = record { count = refl; kind = λ c. refl; joint = λ c f. refl };
        points = record { lies = λ c. refl };
      }

      entering_with : (free : Bool) → nat_lt v.trains.count (length v.trains.records) ≡ free → KeptLaws (entered_by (cond free (Some v.trains.count, one_added v.trains stand) (None, v.trains)) v b)
      entering_with true free =
          let l = ltb-true _ _ free in
          (sound_added blocks v.trains h stand (lamp_there v.plant b e at) l, enters l)
      entering_with false full = (h, refl)

    pub entering : (o : Option ℕ) (g : Bool) → lamp_at v.plant b ≡ o → green_at v.plant b ≡ g → KeptLaws (entered_if o g v b)
    entering None g at lit = (h, refl)
    entering (Some e) false at lit = (h, refl)
    entering (Some e) true at lit = entering_with e at lit (nat_lt v.trains.count (length v.trains.records)) refl

  module _ (t : ℕ) (k : Kept Stand) (there : t < v.trains.count) (is : k ≡ slice_index_or v.trains.records t blank) where
    fits : Fit k
    fits = subst Fit (sym is) (fit t (omega (arith, there, enough)))

    on : stands_on blocks (stands_of k) ≡ true
    on = subst (λ (q : Kept Stand). stands_on blocks (stands_of q) ≡ true) (sym is) (kept_on blocks v.trains h t there)

    some : 0 < length (stands_of k)
    some = some_stand blocks (stands_of k) on

    train_is : train (ground_seen v) t ≡ stands_of k
    train_is = train_at v.trains enough t there ∙ ap stands_of (sym is)

    in_trains : t < length (trains_of v.trains)
    in_trains = omega (arith, there, how_many v.trains enough)

    changed : (j : Kept Stand) → trains_of (with_train v.trains t j) ≡ slice_set (trains_of v.trains) t (stands_of j)
    changed = trains_with v.trains enough t there

    still_sound : (j : Kept Stand) → stands_on blocks (stands_of j) ≡ true → sound_on blocks (with_train v.trains t j) ≡ true
    still_sound j s = sound_with blocks v.trains h t j there s

    module _ (x : Stand) where
      forwards : (e : ℕ) → way_at v.plant (front_of k).block (front_of k).entered ≡ Some e → joint_at v.plant (front_of k).block e ≡ Joined x.block x.entered → k.len < 24 → Forwards (ground_seen v) t x.block (ground_of v.plant (trains_of (with_train v.trains t (extended k x).1)))
      forwards e way joint l = record {
        there = in_trains;
        front = front_of k;
        is_front = (length (stands_of k) - 1, omega (arith, some, ap length train_is), ap (λ (xs : List Stand). get_or xs (length (stands_of k) - 1) no_stand) train_is);
        end = e;
        leads = way;
        entered = x.entered;
        across = joint;
        trains = changed (extended k x).1 ∙ ap (set (trains_of v.trains) t) (more_stands k x fits l ∙ ap (λ (xs : List Stand). xs ++ x ∷ []) (sym train_is));
        built = record { count = refl; kind = λ c. refl; joint = λ c f. refl };
        points = record { lies = λ c. refl };
        lamps = record { green = λ c. refl };
      }

      forwarding_to : next_of v.plant (front_of k) ≡ Some x → (room : Bool) → nat_lt k.len 24 ≡ room → KeptLaws (forwarded_to x (cond room (Ok tt) (Err no_room), (extended k x).1) v t)
      forwarding_to next false full = (h, refl)
      forwarding_to next true room =
          let l : k.len < 24 = ltb-true k.len 24 room in
          let p = next_is v.plant (front_of k).block x (way_at v.plant (front_of k).block (front_of k).entered) next in
          (still_sound (extended k x).1 (subst (λ (xs : List Stand). stands_on blocks xs ≡ true) (sym (more_stands k x fits l)) (one_more blocks (stands_of k) x on p.2.1)), forwards p.0 p.1 p.2.0 l)

    forwarding_on : (o : Option Stand) → next_of v.plant (front_of k) ≡ o → KeptLaws (forwarded_if o k v t)
    forwarding_on None next = (h, refl)
    forwarding_on (Some x) next = forwarding_to x next (nat_lt k.len 24) refl

    used : 0 < k.len
    used = omega (arith, some, how_long k fits)

    shortens : 2 ≤ length (stands_of k) → Shortens (ground_seen v) t (ground_of v.plant (trains_of (with_train v.trains t (shortened k))))
    shortens l = record {
      long = omega (arith, l, ap length train_is);
      trains = changed (shortened k) ∙ ap (set (trains_of v.trains) t) (fewer_stands k fits used ∙ ap (drop 1) (sym train_is));
    }

    rear : get_or (train (ground_seen v) t) 0 no_stand ≡ rear_of k
    rear = ap (λ (xs : List Stand). get_or xs 0 no_stand) train_is

    leaves : length (stands_of k) < 2 → (e : ℕ) → way_at v.plant (rear_of k).block (rear_of k).entered ≡ Some e → joint_at v.plant (rear_of k).block e ≡ Outer → Leaves (ground_seen v) t (ground_of v.plant (trains_of (taken_out v.trains t)))
    leaves l e way out = record {
      short = omega (arith, l, some, ap length train_is);
      end = e;
      leads = ap (way_on (ground_seen v)) rear ∙ way;
      out = ap (λ (s : Stand). joint_at v.plant s.block e) rear ∙ out;
      trains = trains_out v.trains enough t there;
    }

    clears : (s : Stock) → Shortens (ground_seen v) t (ground_of v.plant (trains_of s)) ⊎ Leaves (ground_seen v) t (ground_of v.plant (trains_of s)) → Clears (ground_seen v) t (rear_of k).block (ground_of v.plant (trains_of s))
    clears s how = record {
      there = in_trains;
      rear = ap (λ (q : Stand). q.block) rear;
      how = how;
      built = record { count = refl; kind = λ c. refl; joint = λ c f. refl };
      points = record { lies = λ c. refl };
      lamps = record { green = λ c. refl };
    }

    clearing_on : (long out : Bool) → nat_le 2 (length (stands_of k)) ≡ long → leads_out v.plant (rear_of k) ≡ out → KeptLaws (cleared_if long out k v t)
    clearing_on true out two way =
        let l : 2 ≤ length (stands_of k) = leb-true 2 (length (stands_of k)) two in
        (still_sound (shortened k) (subst (λ (xs : List Stand). stands_on blocks xs ≡ true) (sym (fewer_stands k fits used)) (one_fewer blocks (stands_of k) on l)), clears (with_train v.trains t (shortened k)) (inl (shortens l)))
    clearing_on false true two way =
        let p = leaves_is v.plant (rear_of k).block (way_at v.plant (rear_of k).block (rear_of k).entered) way in
        (sound_out blocks v.trains h t there, clears (taken_out v.trains t) (inr (leaves (leb-false 2 (length (stands_of k)) two) p.0 p.1 p.2)))
    clearing_on false false two way = (h, refl)

  module _ (t : ℕ) where
    forwarding : (o : Option (Kept Stand)) → o ≡ found v.trains t → KeptLaws (forwarded_found o v t)
    forwarding None e = (h, refl)
    forwarding (Some k) e =
        let p = found_is v.trains t k e in
        forwarding_on t k p.0 p.1 (next_of v.plant (front_of k)) refl

    clearing : (o : Option (Kept Stand)) → o ≡ found v.trains t → KeptLaws (cleared_found o v t)
    clearing None e = (h, refl)
    clearing (Some k) e =
        let p = found_is v.trains t k e in
        clearing_on t k p.0 p.1 (nat_le 2 (length (stands_of k))) (leads_out v.plant (rear_of k)) refl refl

  pub granting : (w : Wish) → KeptLaws (granted w v)
  granting (Enter b) = entering b (lamp_at v.plant b) (green_at v.plant b) refl refl
  granting (Forward t) = forwarding t (found v.trains t) refl
  granting (Clear t) = clearing t (found v.trains t) refl
