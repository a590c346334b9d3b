-- A text that is written piece by piece. Assumes nothing.
use Rattle.std.proofs.Common.{◌≡◌, ℕ, suc, ◌+◌, ◌≤◌, List, [], ◌∷◌, ◌++◌, length, drop, Some, None, sym, ap, ◌∙◌, inl, inr, arith}
use Rattle.std.specs.List.{slice_get}
use Rattle.std.proofs.lemmas.List.{append_assoc, drop_more, drop_all}
use Rattle.std.proofs.lemmas.Option.{none-some, slice_get_within, get_or_from_slice_get, slice_get_cases}
use Rattle.network.specs.declared.route.Step.{Step}
use Rattle.network.specs.Judge.{Plan}
use Rattle.report.specs.Texts.{route_text, routes_text}

pub past : {A : Type 0} (xs : List A) (k : ℕ) → None ≡ slice_get xs k → length xs ≤ k
past xs k e = elim (slice_get_cases xs k).1 [ inl h ↦ absurd (none-some h.0 (e ∙ h.2)) | inr h ↦ h.0 ]

module _ (p : Plan) (k : ℕ) (was whole : List ℕ) where
  -- the lines of the routes that are numbered from m
  abbrev lines : ℕ → List (List Step) → List ℕ
  lines m rs = routes_text p.blocks m rs

  -- with the lines of the routes from k on, the text is whole
  abbrev pub LacksRest : Type 0
  LacksRest = was ++ routes_text p.blocks k (drop k p.routes) ≡ whole

  pub route_written : (ss : List Step) (next : List ℕ) → Some ss ≡ slice_get p.routes k → LacksRest → next ≡ was ++ route_text p.blocks k ss → next ++ routes_text p.blocks (k + 1) (drop (k + 1) p.routes) ≡ whole
  route_written ss next e h q =
      let rs = p.routes in
      let rest = drop (k + 1) rs in
      let n : k + 1 ≡ suc k = omega arith in
      let first : drop k rs ≡ ss ∷ rest = drop_more rs k [] (slice_get_within rs k ss (sym e)) ∙ ap (λ (s : List Step). s ∷ rest) (get_or_from_slice_get rs k ss [] (sym e)) in
      ap (λ m. next ++ lines m rest) n
      ∙ ap (λ ys. ys ++ lines (suc k) rest) q
      ∙ append_assoc was (route_text p.blocks k ss) (lines (suc k) rest)
      ∙ sym (ap (λ rs. was ++ lines k rs) first)
      ∙ h

  -- there are no routes from here on
  pub none_written : None ≡ slice_get p.routes k → LacksRest → was ++ routes_text p.blocks (k + 1) (drop (k + 1) p.routes) ≡ whole
  none_written e h =
      let n = past p.routes k e in
      ap (λ rs. was ++ lines (k + 1) rs) (drop_all (k + 1) p.routes (omega arith)) ∙ ap (λ ys. was ++ lines k ys) (sym (drop_all k p.routes n)) ∙ h
