-- A drawing that grows by a line: its text, its limits, and what declaring comes to. Assumes nothing.
use Rattle.std.proofs.Common.{◌≡◌, ℕ, suc, ◌<◌, ◌≤◌, List, [], ◌∷◌, ◌++◌, length, get_or, Some, Ok, Err, sym, ap, ◌∙◌, inl, inr, ⊎_elim, arith}
use Rattle.std.specs.List.{flat_map}
use Rattle.std.proofs.ByRecursion.{All-get_or, All-from_get_or, All-push}
use Rattle.std.proofs.lemmas.List.{append-nil, flat_map_more, length_push, nil_from_length}
use Rattle.std.proofs.lemmas.Bool.{cases_lt, cases_eq, cond-true, cond-false, lt-ltb, le-ltb, eq-eqb, ne_eqb}
use Rattle.network.specs.declared.track.Block.{Block}
use Rattle.network.specs.Drawing.{Declared, with_block, with_route}
use Rattle.reader.specs.declared.refusal.Refusal.TheVariants.{Form, Limit}
use Rattle.reader.specs.Reads.{Declaration, block, route, within, declare}
use Rattle.reader.specs.Text.{block_text, route_text, text_of, ended, written, lines, no_block, BlockSized, RouteSized, Sized, Within, MayFollow, Over}

-- a drawing with one declaration more
abbrev pub grown : Declared → Declaration → Declared
grown d (block x) = with_block d x
grown d (route r) = with_route d r

pub written_grown : (d : Declared) (x : Declaration) → MayFollow d x → written (grown d x) ≡ written d ++ ended (text_of x)
written_grown d (block x) e =
    let f : Block → List ℕ = λ y. ended (block_text y) in
    let g : List ℕ → List ℕ = λ r. ended (route_text r) in
    let a : flat_map f (d.blocks ++ x ∷ []) ≡ flat_map f d.blocks ++ f x = sym (flat_map_more f [] d.blocks x) in
    let none : (ys : List ℕ) → ys ++ flat_map g d.routes ≡ ys = λ ys. ap (λ (rs : List (List ℕ)). ys ++ flat_map g rs) e ∙ append-nil ys in
    none (flat_map f (d.blocks ++ x ∷ [])) ∙ a ∙ ap (λ ys. ys ++ f x) (sym (none (flat_map f d.blocks)))
written_grown d (route r) e = sym (flat_map_more (λ r. ended (route_text r)) (flat_map (λ x. ended (block_text x)) d.blocks) d.routes r)

pub lines_grown : (d : Declared) (x : Declaration) → lines (grown d x) ≡ suc (lines d)
lines_grown d (block x) = omega (arith, length_push d.blocks x)
lines_grown d (route r) = omega (arith, length_push d.routes r)

each_push : {X : Type 0} (P : X → Type 0) (xs : List X) (x y : X) → ((i : ℕ) → i < length xs → P (get_or xs i y)) → P x → (i : ℕ) → i < length (xs ++ x ∷ []) → P (get_or (xs ++ x ∷ []) i y)
each_push P xs x y h k i l = All-get_or P (xs ++ x ∷ []) i y l (All-push P xs x (All-from_get_or P xs y h) k)

pub within_grown : (d : Declared) (x : Declaration) → Within d → Sized x → (Over d x → ⊥) → Within (grown d x)
within_grown d (block x) h s o = elim (cases_lt (length d.blocks) 64) [
  | inr l ↦ absurd (o l)
  | inl l ↦ record {
    few_blocks = omega (arith, length_push d.blocks x);
    few_routes = h.few_routes;
    short = h.short;
    blocks = each_push BlockSized d.blocks x no_block h.blocks s;
    routes = h.routes;
  }
]
within_grown d (route r) h s o = elim (cases_lt (length d.routes) 32) [
  | inr l ↦ absurd (o (inl l))
  | inl l ↦ elim (cases_lt 24 (length r)) [
    | inl m ↦ absurd (o (inr m))
    | inr m ↦ record {
      few_blocks = h.few_blocks;
      few_routes = omega (arith, length_push d.routes r);
      short = each_push (λ q. length q ≤ 24) d.routes r [] h.short m;
      blocks = h.blocks;
      routes = each_push RouteSized d.routes r [] h.routes s;
    }
  ]
]

-- what declaring x comes to
pub data Declares (d : Declared) (n : ℕ) (x : Declaration) : Type 0 where
  grows : MayFollow d x → (Over d x → ⊥) → declare d n (Some x) ≡ Ok (grown d x) → Declares d n x
  over : MayFollow d x → Over d x → declare d n (Some x) ≡ Err (Limit n) → Declares d n x
  amiss : (MayFollow d x → ⊥) → declare d n (Some x) ≡ Err (Form n) → Declares d n x

pub declares : (d : Declared) (n : ℕ) (x : Declaration) → Declares d n x
declares d n (block x) = elim (cases_eq (length d.routes) 0) [
  | inr k ↦ amiss (λ e. k (ap length e)) (cond-false _ _ _ (ne_eqb _ _ k))
  | inl e ↦ elim (cases_lt (length d.blocks) 64) [
    | inl l ↦ grows (nil_from_length d.routes e) (λ m. omega arith) (cond-true _ _ _ (eq-eqb _ _ e) ∙ ap (within n) (cond-true _ _ _ (lt-ltb _ _ l)))
    | inr l ↦ over (nil_from_length d.routes e) l (cond-true _ _ _ (eq-eqb _ _ e) ∙ ap (within n) (cond-false _ _ _ (le-ltb _ _ l)))
  ]
]
declares d n (route r) = elim (cases_lt 24 (length r)) [
  | inl l ↦ over tt (inr l) (ap (within n) (cond-true _ _ _ (lt-ltb _ _ l)))
  | inr l ↦ elim (cases_lt (length d.routes) 32) [
    | inl m ↦ grows tt (λ o. ⊎_elim (λ (k : 32 ≤ length d.routes). omega arith) (λ (k : 24 < length r). omega arith) o) (ap (within n) (cond-false _ _ _ (le-ltb _ _ l) ∙ cond-true _ _ _ (lt-ltb _ _ m)))
    | inr m ↦ over tt (inl m) (ap (within n) (cond-false _ _ _ (le-ltb _ _ l) ∙ cond-false _ _ _ (le-ltb _ _ m)))
  ]
]
