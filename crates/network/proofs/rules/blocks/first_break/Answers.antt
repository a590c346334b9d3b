use Rattle.std.proofs.Common.{◌≡◌, ℕ, ◌+◌, ◌<◌, Bool, true, false, List, length, get_or, drop, Some, sym, ap, ◌∙◌, add-one, arith}
use Rattle.std.proofs.lemmas.List.{at_drop_more, at_drop_all}
use Rattle.std.proofs.lemmas.Bool.{cond-true, cond-false}
use Rattle.network.specs.declared.track.Block.{Block}
use Rattle.network.specs.declared.rules.BlockRule.{BlockRule}
use Rattle.network.specs.Judge.{block_meets, first_break}
use Rattle.network.specs.Network.{blocks_of}
use Rattle.network.proofs.rules.blocks.first_break.Goals as goal

-- the first break from the i-th of the blocks on, by what the i-th of the loop's list is found to do
module _ (bs xs : List Block) (e : xs ≡ bs) (ρ : BlockRule) (i : ℕ) (x : Block) (l : i < length xs) where
  found : {m : Bool} → m ≡ block_meets bs ρ i (get_or xs i x) → block_meets bs ρ i (get_or bs i x) ≡ m
  found h = ap (λ ys. block_meets bs ρ i (get_or ys i x)) (sym e) ∙ sym h

  here : false ≡ block_meets bs ρ i (get_or xs i x) → first_break bs ρ i (drop i bs) ≡ Some i
  here h = at_drop_more (first_break bs ρ i) bs i x (omega (arith, ap length e)) ∙ cond-false _ _ _ (found h)

  later : true ≡ block_meets bs ρ i (get_or xs i x) → first_break bs ρ i (drop i bs) ≡ first_break bs ρ (i + 1) (drop (i + 1) bs)
  later h =
      at_drop_more (first_break bs ρ i) bs i x (omega (arith, ap length e)) ∙ cond-true _ _ _ (found h) ∙ ap (λ k. first_break bs ρ k (drop (i + 1) bs)) (sym (add-one i))

pub returns-then-not-meets : goal.returns-then-not-meets
returns-then-not-meets c =
    sym (here _ _ c.as_slice-block-items.ensures.value c.args.rule c.loop-i.i _ c.loop-i-test.true c.if-not-meets.ensures) ∙ c.loop-i.invariant

pub loop-i-preserved : goal.loop-i-preserved
loop-i-preserved c =
    sym (later _ _ c.as_slice-block-items.ensures.value c.args.rule c.loop-i.i _ c.loop-i-test.true c.if-not-meets.ensures) ∙ c.loop-i.invariant

pub returns : goal.returns
returns c =
    let bs = blocks_of c.args.network.now in
    sym (at_drop_all (first_break bs c.args.rule c.loop-i.i) bs c.loop-i.i (omega (arith, ap length c.as_slice-block-items.ensures.value))) ∙ c.loop-i.invariant
