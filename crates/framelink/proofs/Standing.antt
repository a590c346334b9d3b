-- Trains stay on blocks that are there, whatever they do. Assumes nothing.
use Rattle.std.proofs.Common.{◌≡◌, ℕ, zero, suc, ◌<◌, Bool, true, ltb, List, [], ◌∷◌, map, length, set, Some, None, Option, Result, sym, refl, ap, ◌∙◌, subst}
use Rattle.std.specs.List.{list_all, remove}
use Rattle.std.proofs.lemmas.Bool.{and_parts, and_from, lt-ltb, cond_both}
use Rattle.std.proofs.lemmas.List.Folds.{list_all-append, list_all-map}
use Rattle.std.proofs.lemmas.List.Recursion.{and_set}
use Rattle.table.specs.declared.NoRoom.{NoRoom}
use Rattle.table.specs.Tables.{pushed}
use Rattle.trackside.specs.declared.answers.Lamp.{Lamp}
use Rattle.trackside.specs.declared.answers.Stand.{Stand}
use Rattle.trackside.specs.declared.answers.Stuck.{Stuck}
use Rattle.trackside.specs.Ground.{shows_green}
use Rattle.trackside.specs.Plants.{Stored, lamp_at, with_lamp, light_if, lit}
use Rattle.framelink.specs.declared.train.Train.{Train}
use Rattle.framelink.specs.Standing.{train_there, all_there, one_there}
use Rattle.framelink.specs.Trains.{stands_of}
use Rattle.framelink.proofs.Trains.{FoundTrain}

-- a test of each item of a list of which one more is pushed, or one taken out
module _ {X : Type 0} (test : X → Bool) where
  all_pushed : (m : ℕ) (xs ys : List X) (x : X) (r : Result Unit NoRoom) → ◌≡◌ {A = Result Unit NoRoom × List X} (r, ys) (pushed m xs x) → list_all test xs ≡ true → test x ≡ true → list_all test ys ≡ true
  all_pushed m xs ys x r e h l =
      subst (λ (z : Result Unit NoRoom × List X). list_all test z.1 ≡ true) (sym e)
      (cond_both (ltb (length xs) m) _ _ (λ (z : Result Unit NoRoom × List X). list_all test z.1 ≡ true) (λ q. list_all-append test xs (x ∷ []) ∙ and_from _ _ h (and_from _ _ l refl)) (λ q. h))

  pub all_less : (xs : List X) (k : ℕ) → list_all test xs ≡ true → list_all test (remove xs k) ≡ true
  all_less [] zero h = refl
  all_less [] (suc k) h = refl
  all_less (x ∷ xs) zero h = (and_parts _ _ h).1
  all_less (x ∷ xs) (suc k) h = let p = and_parts _ _ h in and_from _ _ p.0 (all_less xs k p.1)

module _ (n : ℕ) where
  abbrev there : Train → Bool
  there t = train_there n (stands_of t)

  by_trains : (ts : List Train) → all_there n (map stands_of ts) ≡ list_all there ts
  by_trains ts = list_all-map (train_there n) stands_of ts

  -- a train that goes on, where it has room
  pub longer_there : (t u : Train) (s : Stand) (r : Result Unit NoRoom) → ◌≡◌ {A = Result Unit NoRoom × List Stand} (r, stands_of u) (pushed 24 (stands_of t) s) → there t ≡ true → s.block < n → there u ≡ true
  longer_there t u s r e h l = all_pushed (λ (x : Stand). ltb x.block n) 24 (stands_of t) (stands_of u) s r e h (lt-ltb s.block n l)

  pub one_set : (ts us : List Train) (k : ℕ) (t : Train) → us ≡ set ts k t → all_there n (map stands_of ts) ≡ true → there t ≡ true → all_there n (map stands_of us) ≡ true
  one_set ts us k t e h l = by_trains us ∙ ap (list_all there) e ∙ and_set (list_all there) there refl (λ _ _. refl) ts k t l (sym (by_trains ts) ∙ h)

  pub one_more : (ts us : List Train) (t : Train) (r : Result Unit NoRoom) → ◌≡◌ {A = Result Unit NoRoom × List Train} (r, us) (pushed 16 ts t) → all_there n (map stands_of ts) ≡ true → there t ≡ true → all_there n (map stands_of us) ≡ true
  one_more ts us t r e h l = by_trains us ∙ all_pushed there 16 ts us t r e (sym (by_trains ts) ∙ h) l

  pub one_less : (ts us : List Train) (k : ℕ) → us ≡ remove ts k → all_there n (map stands_of ts) ≡ true → all_there n (map stands_of us) ≡ true
  one_less ts us k e h = by_trains us ∙ ap (list_all there) e ∙ all_less there ts k (sym (by_trains ts) ∙ h)

  pub was_there : {X : Type 0} (p : List Stand → Option X) (ts : List Train) {k : ℕ} {x : X} {t : Train} → FoundTrain p ts k x t → all_there n (map stands_of ts) ≡ true → there t ≡ true
  was_there p ts {k = k} f h = ap (train_there n) f.stands ∙ one_there n (map stands_of ts) h k

  pub new_there : (t : Train) (c e : ℕ) → c < n → stands_of t ≡ record { block = c; entered = e } ∷ [] → there t ≡ true
  new_there t c e l s = ap (train_there n) s ∙ and_from _ _ (lt-ltb c n l) refl

lit_built : (o : Option ℕ) (m w : Stored) → w.blocks ≡ m.blocks → (light_if o m w).1.blocks ≡ m.blocks
lit_built None m w e = refl
lit_built (Some f) m w e = e

-- a lamp that was lit leaves the blocks
pub lit_blocks : (m w : Stored) (b : ℕ) (l : Lamp) (a : Result Unit Stuck) → ◌≡◌ {A = Result Unit Stuck × Stored} (a, w) (lit m b l) → w.blocks ≡ m.blocks
lit_blocks m w b l a e = ap (λ (x : Result Unit Stuck × Stored). x.1.blocks) e ∙ lit_built (lamp_at m b) m (with_lamp m b (shows_green l)) refl
