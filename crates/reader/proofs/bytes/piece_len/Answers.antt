use Rattle.std.specs.Prelude.{◌==◌}
use Rattle.std.proofs.Common.{◌≡◌, ℕ, List, length, ap, ◌∙◌, inl, inr, arith, rules, tests}
use Rattle.std.specs.Option.{unwrap_or}
use Rattle.std.specs.List.{position}
use Rattle.std.proofs.lemmas.Bool.{cases_lt, lt-ltb, le-ltb, cond-true, cond-false}
use Rattle.std.proofs.lemmas.Iterator.{YieldsList-from_slice}
use Rattle.std.proofs.lemmas.Iterator.Search.{position_from_yields_List}
use Rattle.std.proofs.lemmas.List.Sums.{prefix_len-le-length}
use Rattle.reader.specs.Words.{apart, before}
use Rattle.reader.proofs.bytes.piece_len.Goals as goal

-- where the mark is nowhere, all bytes stand before it
all_before : (s : ℕ) (xs : List ℕ) → unwrap_or (position (λ b. b == s) xs) (length xs) ≡ before s xs
all_before s xs =
    let n = before s xs in
    elim (cases_lt n (length xs)) [
      | inl l ↦ ap (λ o. unwrap_or o (length xs)) (cond-true _ _ _ (lt-ltb _ _ l))
      | inr l ↦ ap (λ o. unwrap_or o (length xs)) (cond-false _ _ _ (le-ltb _ _ l)) ∙ omega (arith, prefix_len-le-length (apart s) xs)
    ]

pub returns-clause-value : goal.returns-clause-value
returns-clause-value c =
    let xs = c.args.text.now in
    let s = c.args.mark in
    let at = position_from_yields_List (λ (b : ℕ). b == s) _ _ c.position.result c.position.ensures.ran (YieldsList-from_slice xs cc) (λ x b q k. search (rules, tests)) in
    c.unwrap_or.ensures ∙ ap (λ o. unwrap_or o (length xs)) at ∙ all_before s xs
