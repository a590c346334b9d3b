-- The blocks of a sheet, checked one after the other. Assumes nothing.
use Rattle.std.proofs.Common.{◌≡◌, ℕ, ◌+◌, ◌<◌, ◌≤◌, List, length, get_or, drop, Some, None, Option, sym, ap, ◌∙◌, add-one}
use Rattle.std.proofs.lemmas.List.{at_drop_more, at_drop_all}
use Rattle.network.specs.declared.track.Block.{Block}
use Rattle.book.specs.declared.refusal.Unfit.{Unfit}
use Rattle.interlocking.specs.Fitness.{or_else, first_unfit}

module _ (says : ℕ → Block → Option Unfit) (bs : List Block) (b : ℕ) where
  -- from block b on, the check says what it says from block 0 on
  abbrev pub LeftToCheck : Type 0
  LeftToCheck = first_unfit says b (drop b bs) ≡ first_unfit says 0 bs

  module _ (d : Block) (within : b < length bs) where
    one_block : first_unfit says b (drop b bs) ≡ or_else (says b (get_or bs b d)) (first_unfit says (b + 1) (drop (b + 1) bs))
    one_block =
        at_drop_more (first_unfit says b) bs b d within
        ∙ ap (λ n. or_else (says b (get_or bs b d)) (first_unfit says n (drop (b + 1) bs))) (sym (add-one b))

    pub unfit_here : (u : Unfit) → says b (get_or bs b d) ≡ Some u → LeftToCheck → Some u ≡ first_unfit says 0 bs
    unfit_here u f h = sym (ap (λ o. or_else o (first_unfit says (b + 1) (drop (b + 1) bs))) f) ∙ sym one_block ∙ h

    pub fit_here : says b (get_or bs b d) ≡ None → LeftToCheck → first_unfit says (b + 1) (drop (b + 1) bs) ≡ first_unfit says 0 bs
    fit_here f h = sym (ap (λ o. or_else o (first_unfit says (b + 1) (drop (b + 1) bs))) f) ∙ sym one_block ∙ h

  pub all_fit : length bs ≤ b → LeftToCheck → None ≡ first_unfit says 0 bs
  all_fit l h = sym (at_drop_all (first_unfit says b) bs b l) ∙ h
