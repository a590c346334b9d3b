-- A search over trains, step by step. Assumes nothing.
use Rattle.std.proofs.Common.{◌≡◌, ℕ, ◌+◌, ◌<◌, ◌≤◌, List, [], map, length, get_or, drop, Some, None, Option, sym, ap, ◌∙◌, arith}
use lib.ListN.{length-map}
use Rattle.std.proofs.lemmas.List.{at_drop_more, at_drop_all, get_or-map}
use Rattle.trackside.specs.declared.answers.Stand.{Stand}
use Rattle.framelink.specs.declared.train.Train.{Train}
use Rattle.framelink.specs.Movements.{found, first_with}
use Rattle.framelink.specs.Trains.{stands_of}

module _ {X : Type 0} (p : List Stand → Option X) (ts : List Train) where
  -- the first i trains were none
  abbrev pub Passed : ℕ → Type 0
  Passed i = first_with p i (drop i (map stands_of ts)) ≡ first_with p 0 (map stands_of ts)

  module _ (i : ℕ) (t : Train) (h : i < length ts) (e : t ≡ get_or ts i t) (l : Passed i) where
    at_train : first_with p i (drop i (map stands_of ts)) ≡ found (p (stands_of t)) i (first_with p (i + 1) (drop (i + 1) (map stands_of ts)))
    at_train =
        at_drop_more (first_with p i) (map stands_of ts) i [] (omega (arith, length-map ts stands_of))
        ∙ ap (λ u. found (p u) i (first_with p (i + 1) (drop (i + 1) (map stands_of ts)))) (get_or-map stands_of ts i t [] h ∙ ap stands_of (sym e))

    pub passed_more : p (stands_of t) ≡ None → Passed (i + 1)
    passed_more n = sym (at_train ∙ ap (λ o. found o i (first_with p (i + 1) (drop (i + 1) (map stands_of ts)))) n) ∙ l

    pub passed_hit : (x : X) → p (stands_of t) ≡ Some x → Some (i, x) ≡ first_with p 0 (map stands_of ts)
    passed_hit x n = sym (at_train ∙ ap (λ o. found o i (first_with p (i + 1) (drop (i + 1) (map stands_of ts)))) n) ∙ l

  pub passed_all : (i : ℕ) → length ts ≤ i → Passed i → None ≡ first_with p 0 (map stands_of ts)
  passed_all i h l = sym (at_drop_all (first_with p i) (map stands_of ts) i (omega (arith, length-map ts stands_of))) ∙ l
