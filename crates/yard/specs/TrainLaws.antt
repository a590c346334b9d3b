-- What becomes of the stands of trains as their records change. Assumes nothing.
use Rattle.std.specs.Prelude.{◌≡◌, ℕ, zero, suc, ◌+◌, ◌-◌, ◌<◌, ◌≤◌, Bool, true, List, [], ◌∷◌, ◌++◌, map, length, get_or, take, drop, Some, Option, nat_lt, slice_index_or, slice_set, refl}
use Rattle.std.specs.List.{All, list_all}
use Rattle.std.proofs.Common.{sym, ap, subst, ◌∙◌, arith}
use Rattle.std.proofs.Math.Seq.{take-set-lt}
use Rattle.std.proofs.lemmas.List.Edits.{length-paste}
use Rattle.std.proofs.lemmas.List.Elements.{All-get_or, All-set, All-take, All-drop, All-append}
use Rattle.std.proofs.lemmas.List.Folds.{list_all-append}
use Rattle.std.proofs.lemmas.List.Sums.{AllPass-from_list_all, list_all-from_AllPass}
use Rattle.std.proofs.lemmas.List.{length-map, length-take, length-take-le, length-drop, length-set, get_or-map, get_or-take, take_more_set, map_push, map-set, take-map, drop-map, map-append}
use Rattle.std.proofs.lemmas.Option.{slice_get_within, get_or_from_slice_get}
use Rattle.std.proofs.lemmas.Bool.{cond-true, and_parts, and_from, leb-true, le-leb, ltb-true, lt-ltb}
use Rattle.table.proofs.Closing.{front_closes}
use Rattle.table.specs.Tables.{Kept}
use Rattle.trackside.specs.declared.answers.Stand.{Stand}
use Rattle.trackside.specs.Ground.{no_stand}
use Rattle.trackside.specs.Laws.{without}
use Rattle.yard.specs.declared.train.Train.{Train}
use Rattle.yard.specs.Fleets.{Stock, trains_of, found, with_train, one_added, taken_out}
use Rattle.yard.specs.Sound.{all_on, stands_on, trains_on, sound_on}
use Rattle.yard.specs.Trains.{kept, stands_of, blank, extended, shortened, front_of, rear_of}

-- a record has as many places as it says, and uses no more
pub record Fit (k : Kept Stand) : Type 0 where
  pub few : k.len ≤ 24
  pub places : length k.places ≡ 24

pub fit_at : (rs : List Train) (t : ℕ) → t < length rs → Fit (slice_index_or (map kept rs) t blank)
fit_at [] t h = absurd (omega arith)
fit_at (r ∷ rs) zero h = record { few = r.stands.fits.0; places = r.stands.fits.1 }
fit_at (r ∷ rs) (suc t) h = fit_at rs t (omega arith)

pub how_long : (k : Kept Stand) → Fit k → length (stands_of k) ≡ k.len
how_long k f = length-take-le k.len k.places (omega (arith, f.few, f.places))

-- what lies at the place of the front is the front's stand, whether the record fits or not
pub front_at : (k : Kept Stand) → 0 < k.len → slice_index_or (stands_of k) (k.len - 1) no_stand ≡ slice_index_or k.places (k.len - 1) no_stand
front_at k h = get_or-take k.len k.places (k.len - 1) no_stand (omega arith)

-- the front and the rear of a train, in the places that hold them
pub front_is : (k : Kept Stand) → Fit k → 0 < k.len → (slice_index_or (stands_of k) (k.len - 1) no_stand ≡ front_of k) × (front_of k ≡ slice_index_or k.places (k.len - 1) no_stand)
front_is k f h =
    let last : slice_index_or (stands_of k) (k.len - 1) no_stand ≡ front_of k = ap (λ n. slice_index_or (stands_of k) (n - 1) no_stand) (sym (how_long k f)) in
    (last, sym last ∙ get_or-take k.len k.places (k.len - 1) no_stand (omega arith))

pub rear_is : (k : Kept Stand) → 0 < k.len → (slice_index_or (stands_of k) 0 no_stand ≡ rear_of k) × (rear_of k ≡ slice_index_or k.places 0 no_stand)
rear_is k h = (refl, get_or-take k.len k.places 0 no_stand h)

-- one stand more, or less
pub more_stands : (k : Kept Stand) (x : Stand) → Fit k → k.len < 24 → stands_of (extended k x).1 ≡ stands_of k ++ x ∷ []
more_stands k x f h =
    ap stands_of (cond-true _ _ _ (lt-ltb _ _ h)) ∙ take_more_set k.places k.len x (omega (arith, f.places))

pub fewer_stands : (k : Kept Stand) → Fit k → 0 < k.len → stands_of (shortened k) ≡ drop 1 (stands_of k)
fewer_stands k f h =
    ap stands_of (cond-true _ _ _ (lt-ltb _ _ h)) ∙ front_closes k.places k.len 0 (omega (arith, f.few, f.places)) h

-- the train of a number
pub found_is : (s : Stock) (t : ℕ) (k : Kept Stand) → ◌≡◌ {A = Option (Kept Stand)} (Some k) (found s t) → (t < s.count) × (k ≡ slice_index_or s.records t blank)
found_is s t k e =
    let there : t < s.count = omega (arith, slice_get_within (take s.count s.records) t k (sym e), length-take s.count s.records) in
    (there, sym (get_or_from_slice_get (take s.count s.records) t k blank (sym e)) ∙ get_or-take s.count s.records t blank there)

module _ (s : Stock) (enough : s.count ≤ length s.records) where
  pub how_many : length (trains_of s) ≡ s.count
  how_many = length-map (take s.count s.records) stands_of ∙ length-take-le s.count s.records enough

  module _ (t : ℕ) (h : t < s.count) where
    pub train_at : get_or (trains_of s) t [] ≡ stands_of (slice_index_or s.records t blank)
    train_at =
        let l = length-take-le s.count s.records enough in
        get_or-map stands_of (take s.count s.records) t blank [] (omega arith) ∙ ap stands_of (get_or-take s.count s.records t blank h)

    pub trains_with : (k : Kept Stand) → trains_of (with_train s t k) ≡ slice_set (trains_of s) t (stands_of k)
    trains_with k = ap (map stands_of) (take-set-lt s.count s.records t k h) ∙ map-set stands_of (take s.count s.records) t k

    pub trains_out : trains_of (taken_out s t) ≡ without (trains_of s) t
    trains_out =
        let ks = take s.count s.records in
        ap (map stands_of) (front_closes s.records s.count t enough h)
        ∙ map-append stands_of (take t ks) (drop (suc t) ks)
        ∙ sym (λ i. take-map stands_of t ks i ++ drop-map stands_of (suc t) ks i)

pub trains_added : (s : Stock) (x : Stand) → s.count < length s.records → trains_of (one_added s x) ≡ trains_of s ++ (x ∷ []) ∷ []
trains_added s x h =
    ap (map stands_of) (take_more_set s.records s.count (extended blank x).1 h) ∙ map_push stands_of (take s.count s.records) (extended blank x).1

-- trains stay on the blocks that are there
module _ (n : ℕ) where
  pub some_stand : (xs : List Stand) → stands_on n xs ≡ true → 0 < length xs
  some_stand [] h = let z : ◌≡◌ {A = ℕ} 0 1 = cc in absurd (omega arith)
  some_stand (x ∷ xs) h = omega arith

  all_stand : (xs : List Stand) (i : ℕ) → all_on n xs ≡ true → i < length xs → (get_or xs i no_stand).block < n
  all_stand xs i h l = ltb-true _ _ (All-get_or (λ (s : Stand). nat_lt s.block n ≡ true) xs i no_stand l (AllPass-from_list_all (λ (s : Stand). nat_lt s.block n) xs h))

  pub each_stand : (xs : List Stand) (i : ℕ) → stands_on n xs ≡ true → i < length xs → (get_or xs i no_stand).block < n
  each_stand [] i h l = absurd (omega arith)
  each_stand (x ∷ xs) i h l = all_stand (x ∷ xs) i h l

  -- one more at the end of a list that all pass
  all_more : {A : Type 0} (p : A → Bool) (xs : List A) (x : A) → list_all p xs ≡ true → p x ≡ true → list_all p (xs ++ x ∷ []) ≡ true
  all_more p xs x h l = list_all-append p xs (x ∷ []) ∙ and_from _ _ h (and_from _ _ l refl)

  pub one_more : (xs : List Stand) (x : Stand) → stands_on n xs ≡ true → x.block < n → stands_on n (xs ++ x ∷ []) ≡ true
  one_more [] x h l = and_from _ _ (lt-ltb _ _ l) refl
  one_more (y ∷ ys) x h l = and_from _ _ (and_parts _ _ h).0 (all_more (λ (s : Stand). nat_lt s.block n) ys x (and_parts _ _ h).1 (lt-ltb _ _ l))

  pub one_fewer : (xs : List Stand) → stands_on n xs ≡ true → 2 ≤ length xs → stands_on n (drop 1 xs) ≡ true
  one_fewer [] h l = absurd (omega arith)
  one_fewer (x ∷ []) h l = absurd (omega arith)
  one_fewer (x ∷ y ∷ ys) h l = (and_parts _ _ h).1

  abbrev On : List Stand → Type 0
  On x = stands_on n x ≡ true

  each_on : (ts : List (List Stand)) → trains_on n ts ≡ true → All On ts
  each_on ts h = AllPass-from_list_all (stands_on n) ts h

  from_each : (ts : List (List Stand)) → All On ts → trains_on n ts ≡ true
  from_each ts h = list_all-from_AllPass (stands_on n) ts h

  pub each_train : (ts : List (List Stand)) (t : ℕ) → trains_on n ts ≡ true → t < length ts → stands_on n (slice_index_or ts t []) ≡ true
  each_train ts t h l = All-get_or On ts t [] l (each_on ts h)

  train_set : (ts : List (List Stand)) (k : ℕ) (x : List Stand) → trains_on n ts ≡ true → stands_on n x ≡ true → trains_on n (slice_set ts k x) ≡ true
  train_set ts k x h l = from_each (slice_set ts k x) (All-set On ts k x l (each_on ts h))

  train_without : (ts : List (List Stand)) (k : ℕ) → trains_on n ts ≡ true → trains_on n (without ts k) ≡ true
  train_without ts k h = from_each (without ts k) (All-append On (take k ts) (drop (suc k) ts) (All-take On k ts (each_on ts h)) (All-drop On (suc k) ts (each_on ts h)))

  module _ (s : Stock) (h : sound_on n s ≡ true) where
    pub recorded : s.count ≤ length s.records
    recorded = leb-true _ _ (and_parts _ _ h).0

    pub on_blocks : trains_on n (trains_of s) ≡ true
    on_blocks = (and_parts _ _ h).1

    pub kept_on : (t : ℕ) → t < s.count → stands_on n (stands_of (slice_index_or s.records t blank)) ≡ true
    kept_on t l = subst (λ (xs : List Stand). stands_on n xs ≡ true) (train_at s recorded t l) (each_train (trains_of s) t on_blocks (omega (arith, how_many s recorded)))

    pub has_stand : (t : ℕ) → t < s.count → 0 < length (stands_of (slice_index_or s.records t blank))
    has_stand t l = some_stand _ (kept_on t l)

    pub sound_added : (x : Stand) → x.block < n → s.count < length s.records → sound_on n (one_added s x) ≡ true
    sound_added x b l =
        let fits : s.count + 1 ≤ length (slice_set s.records s.count (extended blank x).1) = omega (arith, length-set s.records s.count (extended blank x).1) in
        let on = all_more (stands_on n) (trains_of s) (x ∷ []) on_blocks (and_from _ _ (lt-ltb _ _ b) refl) in
        and_from _ _ (le-leb _ _ fits) (subst (λ (ts : List (List Stand)). trains_on n ts ≡ true) (sym (trains_added s x l)) on)

    pub sound_with : (t : ℕ) (k : Kept Stand) → t < s.count → stands_on n (stands_of k) ≡ true → sound_on n (with_train s t k) ≡ true
    sound_with t k l on =
        let fits : s.count ≤ length (slice_set s.records t k) = omega (arith, recorded, length-set s.records t k) in
        and_from _ _ (le-leb _ _ fits) (subst (λ (ts : List (List Stand)). trains_on n ts ≡ true) (sym (trains_with s recorded t l k)) (train_set (trains_of s) t (stands_of k) on_blocks on))

    pub sound_out : (t : ℕ) → t < s.count → sound_on n (taken_out s t) ≡ true
    sound_out t l =
        let rs = s.records in
        let same = length-paste rs t (drop (t + 1) rs) (s.count - (t + 1)) (omega (arith, recorded)) (omega (arith, recorded, length-drop (t + 1) rs)) in
        let fits : s.count - 1 ≤ length (taken_out s t).records = omega (arith, recorded, same) in
        and_from _ _ (le-leb _ _ fits) (subst (λ (ts : List (List Stand)). trains_on n ts ≡ true) (sym (trains_out s recorded t l)) (train_without (trains_of s) t on_blocks))
