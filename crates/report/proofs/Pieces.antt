-- The library cuts a text at a mark as a sheet is cut. Assumes nothing.
use Rattle.std.proofs.Common.{◌≡◌, ℕ, cond, eqb, List, [], ◌∷◌, Some, None, Option, Bor, get_or, refl, sym, ap, ◌∙◌}
use Rattle.std.specs.Option.{option_map, unwrap_or}
use Rattle.std.specs.List.{slice_get, slice_split, onto_first}
use Rattle.std.proofs.lemmas.Option.{unwrap_or-slice_get}
use Rattle.reader.specs.Words.{onto, pieces}

onto_same : (x : ℕ) (ps : List (List ℕ)) → onto x ps ≡ onto_first x ps
onto_same x [] = refl
onto_same x (p ∷ ps) = refl

pieces_split : (s : ℕ) (xs : List ℕ) → slice_split (λ b. eqb b s) xs ≡ pieces s xs
pieces_split s [] = refl
pieces_split s (x ∷ xs) =
    ap (λ ps. cond (eqb x s) ([] ∷ ps) (onto_first x ps)) (pieces_split s xs)
    ∙ sym (ap (λ ps. cond (eqb x s) ([] ∷ pieces s xs) ps) (onto_same x (pieces s xs)))

lent_or : (r : Option (Bor (List ℕ))) (d : Bor (List ℕ)) → (unwrap_or r d).now ≡ unwrap_or (option_map (λ x. x.now) r) d.now
lent_or None d = refl
lent_or (Some x) d = refl

-- the piece of number n, or what stands for it
pub piece_or : (s n : ℕ) (xs : List ℕ) (r : Option (Bor (List ℕ))) (d : Bor (List ℕ)) → option_map (λ x. x.now) r ≡ slice_get (slice_split (λ b. eqb b s) xs) n → (unwrap_or r d).now ≡ get_or (pieces s xs) n d.now
piece_or s n xs r d h =
    lent_or r d ∙ ap (λ o. unwrap_or o d.now) h ∙ unwrap_or-slice_get _ n d.now ∙ ap (λ ps. get_or ps n d.now) (pieces_split s xs)
