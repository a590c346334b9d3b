-- A plant with trains on it keeps the laws of throwing and lighting, and makes a good ground. Assumes nothing.
use Rattle.std.proofs.Common.{◌≡◌, ℕ, zero, suc, ◌<◌, ◌≤◌, Bool, true, false, List, [], ◌∷◌, length, get_or, set, Some, None, Option, Ok, Err, Result, sym, refl, ap, ◌∙◌, subst, inl, inr, arith}
use Rattle.std.specs.Option.{option_map}
use Rattle.std.specs.List.{slice_get}
use Rattle.std.proofs.lemmas.List.{get_or-set_same, get_or-set_other, length-map}
use Rattle.std.proofs.lemmas.Option.{slice_get_past, slice_get-get_or}
use Rattle.std.proofs.lemmas.Bool.{eq-eqb, ne_eqb, or_left, or_right, or_from}
use Rattle.network.specs.declared.track.Kind.{Kind}
use Rattle.network.specs.declared.track.Kind.TheVariants.{Plain, Point, Crossing}
use Rattle.network.specs.declared.track.Position.{Position}
use Rattle.network.specs.declared.track.Position.TheVariants.{Left}
use Rattle.network.specs.declared.track.Joint.TheVariants.{Outer}
use Rattle.network.specs.declared.track.Block.{Block}
use Rattle.network.specs.declared.track.Block.TheVariants.{Plain as PlainBlock}
use Rattle.network.specs.Joints.{joint_in}
use Rattle.network.specs.Track.{kind_of, ends_of}
use Rattle.network.proofs.BlockRules.{clash, same_some}
use Rattle.trackside.specs.declared.answers.Lamp.{Lamp}
use Rattle.trackside.specs.declared.answers.Lamp.TheVariants.{Red, Green}
use Rattle.trackside.specs.declared.answers.Stuck.{Stuck}
use Rattle.trackside.specs.declared.answers.Stand.{Stand}
use Rattle.trackside.specs.declared.plant.Setting.{Setting}
use Rattle.trackside.specs.declared.plant.Plant.{Plant}
use Rattle.trackside.specs.Ground.{no_stand, ends_count, shows_green, stands_in, any_stands_in, WellMade}
use Rattle.trackside.specs.Laws.{LiesAsTold, Thrown, ShowsAsTold, Lands, Lit}
use Rattle.trackside.specs.Plants.{Stored, stored, kind_at, joint_or, lies_if, lies_at, lamp_at, green_if, green_at, ground_of, with_position, with_lamp, lay_if, laid, light_if, lit, stuck}
use Rattle.trackside.specs.Sights.{ends_many, green_lamp, only_points}
use Rattle.trackside.proofs.Plants.{few_blocks, kind_there, lamp_there}

-- the tables of a plant are large enough
pub record Sized (m : Stored) : Type 0 where
  pub few : length m.blocks ≤ 64
  pub positions : length m.positions ≡ 64
  pub green : length m.green ≡ 64

-- so are those of every plant
pub plant_sized : (p : Plant) → Sized (stored p)
plant_sized p = record { few = few_blocks p; positions = length-map p.settings (λ (s : Setting). s.position) ∙ p.sized; green = length-map p.settings (λ (s : Setting). shows_green s.lamp) ∙ p.sized }

done_or_stuck : ◌≡◌ {A = Result Unit Stuck} (Ok tt) (Err stuck) → ⊥
done_or_stuck e = let z : ◌≡◌ {A = ℕ} 0 1 = cc in omega arith

-- a throw that leaves all as it is
pub unthrown : (m : Stored) (ts : List (List Stand)) (b : ℕ) (q : Position) (a : Result Unit Stuck) → (a ≡ Ok tt → LiesAsTold (ground_of m ts) b q) → (LiesAsTold (ground_of m ts) b q → a ≡ Ok tt) → Thrown (ground_of m ts) b q a (ground_of m ts)
unthrown m ts b q a told done = record {
  built = record { count = refl; kind = λ c. refl; joint = λ c e. refl };
  lies = inr refl;
  others = λ c n. refl;
  lamps = record { green = λ c. refl };
  trains = record { trains = refl; occupied = λ c. refl };
  told = told;
  done = done;
}

no_point_stuck : (m : Stored) (ts : List (List Stand)) (b : ℕ) (q : Position) → (kind_at m b ≡ Some Point → ⊥) → Thrown (ground_of m ts) b q (Err stuck) (ground_of m ts)
no_point_stuck m ts b q n = unthrown m ts b q (Err stuck) (λ e. absurd (done_or_stuck (sym e))) (λ l. absurd (n l.0))

module _ (m : Stored) (s : Sized m) (ts : List (List Stand)) (b : ℕ) where
  module _ (q : Position) where
    lies_told : kind_at m b ≡ Some Point → lies_at (with_position m b q) b ≡ q
    lies_told e = ap (λ k. lies_if k (get_or (set m.positions b q) b Left)) e ∙ get_or-set_same m.positions b q Left (omega (arith, kind_there m b Point e, s.few, s.positions))

    point_done : kind_at m b ≡ Some Point → Thrown (ground_of m ts) b q (Ok tt) (ground_of (with_position m b q) ts)
    point_done e = record {
      built = record { count = refl; kind = λ c. refl; joint = λ c f. refl };
      lies = inl (lies_told e);
      others = λ c n. ap (lies_if (kind_at m c)) (get_or-set_other m.positions b c q Left n);
      lamps = record { green = λ c. refl };
      trains = record { trains = refl; occupied = λ c. refl };
      told = λ d. (e, lies_told e);
      done = λ d. refl;
    }

    -- what one outcome and one plant say, another that is equal says
    same_thrown : (x y : Result Unit Stuck × Stored) → y ≡ x → Thrown (ground_of m ts) b q x.0 (ground_of x.1 ts) → Thrown (ground_of m ts) b q y.0 (ground_of y.1 ts)
    same_thrown x y e t = subst (λ (z : Result Unit Stuck × Stored). Thrown (ground_of m ts) b q z.0 (ground_of z.1 ts)) (sym e) t

    by_kind : (k : Option Kind) → kind_at m b ≡ k → Thrown (ground_of m ts) b q (lay_if k m (with_position m b q)).0 (ground_of (lay_if k m (with_position m b q)).1 ts)
    by_kind None e = no_point_stuck m ts b q (λ p. clash e p)
    by_kind (Some Plain) e = no_point_stuck m ts b q (λ p. let z : ◌≡◌ {A = ℕ} 0 1 = cc in omega arith)
    by_kind (Some Point) e = point_done e
    by_kind (Some Crossing) e = no_point_stuck m ts b q (λ p. let z : ◌≡◌ {A = ℕ} 0 1 = cc in omega arith)

    pub laid_thrown : (a : Result Unit Stuck) (n : Stored) → ◌≡◌ {A = Result Unit Stuck × Stored} (a, n) (laid m b q) → Thrown (ground_of m ts) b q a (ground_of n ts)
    laid_thrown a n e = same_thrown (laid m b q) (a, n) e (by_kind (kind_at m b) refl)

  module _ (l : Lamp) where
    -- a light that leaves all as it is
    pub unlit : (a : Result Unit Stuck) → Lands l (green_at m b) (green_at m b) → (a ≡ Ok tt → ShowsAsTold (ground_of m ts) b l) → (ShowsAsTold (ground_of m ts) b l → a ≡ Ok tt) → Lit (ground_of m ts) b l a (ground_of m ts)
    unlit a lands told done = record {
      built = record { count = refl; kind = λ c. refl; joint = λ c e. refl };
      points = record { lies = λ c. refl };
      lands = lands;
      others = λ c n. refl;
      trains = record { trains = refl; occupied = λ c. refl };
      told = told;
      done = done;
    }

    no_lamp_stuck : lamp_at m b ≡ None → Lit (ground_of m ts) b l (Err stuck) (ground_of m ts)
    no_lamp_stuck e = unlit (Err stuck) (dark l) (λ d. absurd (done_or_stuck (sym d))) (λ t. absurd (clash e t.0.1))
      where
        dark : (k : Lamp) → Lands k (green_at m b) (green_at m b)
        dark Red = ap (λ o. green_if o (get_or m.green b false)) e
        dark Green = inr refl

    shows_told : (f : ℕ) → lamp_at m b ≡ Some f → green_at (with_lamp m b (shows_green l)) b ≡ shows_green l
    shows_told f e =
        ap (λ o. green_if o (get_or (set m.green b (shows_green l)) b false)) e ∙ get_or-set_same m.green b (shows_green l) false (omega (arith, lamp_there m b f e, s.few, s.green))

    lands_told : (k : Lamp) (was is : Bool) → is ≡ shows_green k → Lands k was is
    lands_told Red was is e = e
    lands_told Green was is e = inl e

    lamp_done : (f : ℕ) → lamp_at m b ≡ Some f → Lit (ground_of m ts) b l (Ok tt) (ground_of (with_lamp m b (shows_green l)) ts)
    lamp_done f e = record {
      built = record { count = refl; kind = λ c. refl; joint = λ c h. refl };
      points = record { lies = λ c. refl };
      lands = lands_told l (green_at m b) (green_at (with_lamp m b (shows_green l)) b) (shows_told f e);
      others = λ c n. ap (green_if (lamp_at m c)) (get_or-set_other m.green b c (shows_green l) false n);
      trains = record { trains = refl; occupied = λ c. refl };
      told = λ d. ((f, e), shows_told f e);
      done = λ d. refl;
    }

    by_lamp : (o : Option ℕ) → lamp_at m b ≡ o → Lit (ground_of m ts) b l (light_if o m (with_lamp m b (shows_green l))).0 (ground_of (light_if o m (with_lamp m b (shows_green l))).1 ts)
    by_lamp None e = no_lamp_stuck e
    by_lamp (Some f) e = lamp_done f e

    pub lit_lights : (a : Result Unit Stuck) (n : Stored) → ◌≡◌ {A = Result Unit Stuck × Stored} (a, n) (lit m b l) → Lit (ground_of m ts) b l a (ground_of n ts)
    lit_lights a n e = subst (λ (z : Result Unit Stuck × Stored). Lit (ground_of m ts) b l z.0 (ground_of z.1 ts)) (sym e) (by_lamp (lamp_at m b) refl)

no_block : Block
no_block = PlainBlock Outer Outer

-- trains that stand on blocks that are there
pub record Standing (m : Stored) (ts : List (List Stand)) : Type 0 where
  pub some_stand : (k : ℕ) → k < length ts → 0 < length (get_or ts k [])
  pub stands : (k i : ℕ) → i < length (get_or ts k []) → (get_or (get_or ts k []) i no_stand).block < length m.blocks

stand_noticed : (t : List Stand) (i : ℕ) → i < length t → stands_in t (get_or t i no_stand).block ≡ true
stand_noticed [] i h = absurd (omega arith)
stand_noticed (x ∷ xs) zero h = or_left _ _ (eq-eqb x.block x.block refl)
stand_noticed (x ∷ xs) (suc i) h = or_right _ _ (stand_noticed xs i (omega arith))

pub train_noticed : (ts : List (List Stand)) (k i : ℕ) → i < length (get_or ts k []) → any_stands_in ts (get_or (get_or ts k []) i no_stand).block ≡ true
train_noticed [] k i h = absurd (omega arith)
train_noticed (t ∷ ts) zero i h = or_left _ _ (stand_noticed t i h)
train_noticed (t ∷ ts) (suc k) i h = or_right _ _ (train_noticed ts k i h)

-- no train stands in a block that none of its stands is in
stand_apart : (t : List Stand) (b : ℕ) → ((i : ℕ) → i < length t → (get_or t i no_stand).block ≡ b → ⊥) → stands_in t b ≡ false
stand_apart [] b n = refl
stand_apart (x ∷ xs) b n = or_from _ _ (ne_eqb x.block b (n 0 (omega arith))) (stand_apart xs b (λ i h. n (suc i) (omega arith)))

pub trains_apart : (ts : List (List Stand)) (b : ℕ) → ((k i : ℕ) → i < length (get_or ts k []) → (get_or (get_or ts k []) i no_stand).block ≡ b → ⊥) → any_stands_in ts b ≡ false
trains_apart [] b n = refl
trains_apart (t ∷ ts) b n = or_from _ _ (stand_apart t b (n 0)) (trains_apart ts b (λ k. n (suc k)))

no_end_more : (o : Option Block) (e : ℕ) (k : Kind) → option_map kind_of o ≡ Some k → ends_count k ≤ e → joint_or (joint_in o e) ≡ Outer
no_end_more None e k h l = refl
no_end_more (Some x) e k h l = ap joint_or (slice_get_past (ends_of x) e (omega (arith, ends_many x, l, ap ends_count (same_some refl h))))

pub well_made : (most : ℕ) (m : Stored) (ts : List (List Stand)) → length m.blocks ≤ most → Sized m → Standing m ts → WellMade most (ground_of m ts)
well_made most m ts fits s t = record {
  carried = fits;
  few = s.few;
  known = λ b h. (kind_of (get_or m.blocks b no_block), ap (option_map kind_of) (slice_get-get_or m.blocks b no_block h));
  unknown = λ b h. ap (option_map kind_of) (slice_get_past m.blocks b h);
  unjoined = λ b e h. ap (λ o. joint_or (joint_in o e)) (slice_get_past m.blocks b h);
  no_end = λ b e k h l. no_end_more (slice_get m.blocks b) e k h l;
  points = λ b n. only_points (kind_at m b) (get_or m.positions b Left) n;
  lamps = λ b h. green_lamp (lamp_at m b) (get_or m.green b false) h;
  some_stand = t.some_stand;
  stands = t.stands;
  noticed = train_noticed ts;
  nowhere = λ b h. trains_apart ts b (λ k i l e. let n = t.stands k i l in omega arith);
}
