-- What the book says after a change of its entries. Assumes nothing.
use Rattle.std.proofs.Common.{◌≡◌, ℕ, ◌<◌, ◌≢◌, eqb, cond, List, [], ◌∷◌, length, Option, sym, refl, ap, ◌∙◌, inl, inr}
use Rattle.std.proofs.lemmas.List.{get_or-set_same, get_or-set_other, length-set, set_past}
use Rattle.std.proofs.lemmas.Bool.{cases_eq, cases_lt, eq-eqb, ne_eqb, cond-true, cond-false}
use Rattle.network.specs.declared.route.Step.{Step}
use Rattle.book.specs.declared.Book.{Book}
use Rattle.book.specs.declared.Entry.{Entry}
use Rattle.book.specs.Books.{blank, entry_of, holder_of, held_for, with_entry, with_holders}

-- the entry of block b becomes what f makes of it
module _ (k : Book) (b : ℕ) (f : Entry → Entry) where
  pub as_many : length (with_entry k b f).blocks ≡ length k.blocks
  as_many = length-set k.blocks b (f (entry_of k b))

  pub entry_here : b < length k.blocks → entry_of (with_entry k b f) b ≡ f (entry_of k b)
  entry_here l = get_or-set_same k.blocks b (f (entry_of k b)) blank l

  pub entry_else : (c : ℕ) → c ≢ b → entry_of (with_entry k b f) c ≡ entry_of k c
  entry_else c n = get_or-set_other k.blocks b c (f (entry_of k b)) blank n

  -- what f leaves of each entry is as it was
  pub look_kept : {A : Type 0} (look : Entry → A) → ((e : Entry) → look (f e) ≡ look e) → (c : ℕ) → look (entry_of (with_entry k b f) c) ≡ look (entry_of k c)
  look_kept look same c = elim (cases_lt b (length k.blocks)) [
    | inl l ↦ elim (cases_eq c b) [
      | inl e ↦ ap (λ n. look (entry_of (with_entry k b f) n)) e ∙ ap look (entry_here l) ∙ same (entry_of k b) ∙ ap (λ n. look (entry_of k n)) (sym e)
      | inr n ↦ ap look (entry_else c n)
    ]
    | inr l ↦ ap (λ (es : List Entry). look (entry_of (record { blocks = es; states = k.states; reserves = k.reserves }) c)) (set_past k.blocks b (f (entry_of k b)) l)
  ]

-- marking the blocks of a route makes the row of blocks neither longer nor shorter
pub as_many_marked : (ss : List Step) (k : Book) (h : Option ℕ) → length (with_holders k ss h).blocks ≡ length k.blocks
as_many_marked [] k h = refl
as_many_marked (s ∷ ss) k h = as_many_marked ss (with_entry k s.block (held_for h)) h ∙ as_many k s.block (held_for h)

-- and changes nothing of an entry but its holder
pub look_marked : {A : Type 0} (look : Entry → A) (ss : List Step) (k : Book) (h : Option ℕ) → ((e : Entry) → look (held_for h e) ≡ look e) → (c : ℕ) → look (entry_of (with_holders k ss h) c) ≡ look (entry_of k c)
look_marked look [] k h same c = refl
look_marked look (s ∷ ss) k h same c = look_marked look ss (with_entry k s.block (held_for h)) h same c ∙ look_kept k s.block (held_for h) look same c

-- the holder of one block changed
pub holder_changed : (k : Book) (b : ℕ) (h : Option ℕ) (f : Entry → Entry) → ((e : Entry) → (f e).holder ≡ h) → b < length k.blocks → (c : ℕ) → holder_of (with_entry k b f) c ≡ cond (eqb c b) h (holder_of k c)
holder_changed k b h f gives l c = elim (cases_eq c b) [
  | inl e ↦ ap (holder_of (with_entry k b f)) e ∙ ap (λ (x : Entry). x.holder) (entry_here k b f l) ∙ gives (entry_of k b) ∙ sym (cond-true (eqb c b) h (holder_of k c) (eq-eqb c b e))
  | inr n ↦ ap (λ (x : Entry). x.holder) (entry_else k b f c n) ∙ sym (cond-false (eqb c b) h (holder_of k c) (ne_eqb c b n))
]
