-- What the book says where the guards of a call hold.
use Rattle.std.proofs.Common.{◌≡◌, ℕ, zero, suc, ◌<◌, Bool, true, false, cond, eqb, ◌≢◌, List, [], ◌∷◌, length, Some, None, Ok, Err, Option, Result, refl, ap, ◌∙◌, arith}
use Rattle.std.proofs.lemmas.Bool.{eq-eqb, eqb-true, cond-true}
use Rattle.network.specs.declared.route.Step.{Step}
use Rattle.network.specs.Rules.{step_at}
use Rattle.book.specs.declared.Book.{Book}
use Rattle.book.specs.declared.refusal.Refusal.{Refusal}
use Rattle.book.specs.declared.refusal.Refusal.TheVariants.{BlockNotHeld, BlockOccupied}
use Rattle.book.specs.declared.state.RouteState.{RouteState}
use Rattle.book.specs.declared.state.RouteState.TheVariants.{Free, Reserved, Formed}
use Rattle.book.specs.Books.{holder_of, occupied_in, state_of}
use Rattle.book.specs.Guards.{and_then, refused_if, is_route, reserved_if, not_possessed, not_reserved, held_and_empty, not_held, every_block, is_free, is_reserved, is_formed, is_not_free, may_reserve, may_lay, may_open, may_cancel, may_free}

-- an answer is not both good and a refusal
pub ok_err : {A E : Type 0} {o : Result A E} {a : A} {e : E} → o ≡ Ok a → o ≡ Err e → ⊥
ok_err p q = cc

-- two guards that both hold
pub both_hold : {A : Type 0} (o : Result Unit Refusal) (n : Result A Refusal) (a : A) → and_then o n ≡ Ok a → (o ≡ Ok tt) × (n ≡ Ok a)
both_hold (Ok u) n a h = (refl, h)
both_hold (Err e) n a h = absurd (ok_err h refl)

-- what is asked of every block is asked of each
every_each : (asked : ℕ → Result Unit Refusal) (ss : List Step) → every_block asked ss ≡ Ok tt → (i : ℕ) → i < length ss → asked (step_at ss i).block ≡ Ok tt
every_each asked [] h i l = absurd (omega arith)
every_each asked (s ∷ ss) h zero l = (both_hold (asked s.block) (every_block asked ss) tt h).0
every_each asked (s ∷ ss) h (suc i) l = every_each asked ss (both_hold (asked s.block) (every_block asked ss) tt h).1 i (omega arith)

-- and the other way round
each_every : (asked : ℕ → Result Unit Refusal) (ss : List Step) → ((i : ℕ) → i < length ss → asked (step_at ss i).block ≡ Ok tt) → every_block asked ss ≡ Ok tt
each_every asked [] h = refl
each_every asked (s ∷ ss) h = ap (λ o. and_then o (every_block asked ss)) (h 0 (omega arith)) ∙ each_every asked ss (λ i l. h (suc i) (omega arith))

-- what each guard says of a route's state where it holds
free_if : (s : RouteState) (r : ℕ) → is_free s r ≡ Ok tt → s ≡ Free
free_if Free r h = refl
free_if Reserved r h = cc
free_if Formed r h = cc

reserved_state : (s : RouteState) (r : ℕ) → is_reserved s r ≡ Ok tt → s ≡ Reserved
reserved_state Free r h = cc
reserved_state Reserved r h = refl
reserved_state Formed r h = cc

formed_if : (s : RouteState) (r : ℕ) → is_formed s r ≡ Ok tt → s ≡ Formed
formed_if Free r h = cc
formed_if Reserved r h = cc
formed_if Formed r h = refl

not_free_if : (s : RouteState) (r : ℕ) → is_not_free s r ≡ Ok tt → s ≢ Free
not_free_if Free r h = absurd (ok_err h refl)
not_free_if Reserved r h = λ e. cc
not_free_if Formed r h = λ e. cc

-- a route that is not free passes
is_not_free_ok : (s : RouteState) (r : ℕ) → s ≢ Free → is_not_free s r ≡ Ok tt
is_not_free_ok Free r n = absurd (n refl)
is_not_free_ok Reserved r n = refl
is_not_free_ok Formed r n = refl

-- a block that is not reserved is held for no route
unheld_if : (o : Option ℕ) (b : ℕ) → reserved_if o b ≡ Ok tt → o ≡ None
unheld_if None b h = refl
unheld_if (Some q) b h = cc

-- a block that is held for r, and not occupied
abbrev pub IsHeldAndEmpty : Book → ℕ → ℕ → Type 0
IsHeldAndEmpty k r b = (holder_of k b ≡ Some r) × (occupied_in k b ≡ false)

-- a block that is reserved for r is held for it
held_if : (o : Option ℕ) (r : ℕ) → is_route o r ≡ true → o ≡ Some r
held_if None r h = cc
held_if (Some q) r h = ap Some (eqb-true q r h)

-- a test, and then another that refuses
cond_refused : (x y : Bool) (d e : Refusal) → cond x (refused_if y d) (Err e) ≡ Ok tt → (x ≡ true) × (y ≡ false)
cond_refused true true d e h = absurd (ok_err h refl)
cond_refused true false d e h = (refl, refl)
cond_refused false y d e h = absurd (ok_err h refl)

-- what is asked of a block before an open or a cancel
held_and_empty_gives : (k : Book) (r b : ℕ) → held_and_empty k r b ≡ Ok tt → IsHeldAndEmpty k r b
held_and_empty_gives k r b h =
    let p = cond_refused (is_route (holder_of k b) r) (occupied_in k b) _ _ h in
    (held_if (holder_of k b) r p.0, p.1)

-- and a block of which it holds passes
held_and_empty_ok : (k : Book) (r b : ℕ) → IsHeldAndEmpty k r b → held_and_empty k r b ≡ Ok tt
held_and_empty_ok k r b h =
    (λ i. cond (is_route (h.0 i) r) (refused_if (h.1 i) (BlockOccupied b)) (Err (BlockNotHeld b))) ∙ cond-true (eqb r r) (Ok tt) (Err (BlockNotHeld b)) (eq-eqb r r refl)

-- a block that passes before a free is not held for r
not_held_if : (o : Option ℕ) (r : ℕ) (e : Refusal) → refused_if (is_route o r) e ≡ Ok tt → o ≡ Some r → ⊥
not_held_if o r e h i = ok_err h (ap (λ q. refused_if (is_route q r) e) i ∙ ap (λ x. refused_if x e) (eq-eqb r r refl))

-- a route that may be reserved is free, and none of its blocks is held
pub may_reserve_gives : (k : Book) (r : ℕ) (ss : List Step) → may_reserve k r ss ≡ Ok tt → (state_of k r ≡ Free) × ((i : ℕ) → i < length ss → holder_of k (step_at ss i).block ≡ None)
may_reserve_gives k r ss h =
    let both = both_hold (is_free (state_of k r) r) (and_then (every_block (not_possessed k) ss) (every_block (not_reserved k) ss)) tt h in
    let b = both_hold (every_block (not_possessed k) ss) (every_block (not_reserved k) ss) tt both.1 in
    (free_if (state_of k r) r both.0, λ i l. unheld_if _ _ (every_each (not_reserved k) ss b.1 i l))

-- a route that may be laid is reserved
pub may_lay_gives : (k : Book) (r : ℕ) → may_lay k r ≡ Ok tt → state_of k r ≡ Reserved
may_lay_gives k r h = reserved_state (state_of k r) r h

-- a route that may be opened is formed, and each of its blocks is held for it and empty
pub may_open_gives : (k : Book) (r : ℕ) (ss : List Step) → may_open k r ss ≡ Ok tt → (state_of k r ≡ Formed) × ((i : ℕ) → i < length ss → IsHeldAndEmpty k r (step_at ss i).block)
may_open_gives k r ss h =
    let both = both_hold (is_formed (state_of k r) r) (every_block (held_and_empty k r) ss) tt h in
    (formed_if (state_of k r) r both.0, λ i l. held_and_empty_gives k r _ (every_each (held_and_empty k r) ss both.1 i l))

-- a route that may be cancelled is not free, and each of its blocks is held for it and empty
pub may_cancel_gives : (k : Book) (r : ℕ) (ss : List Step) → may_cancel k r ss ≡ Ok tt → (state_of k r ≢ Free) × ((i : ℕ) → i < length ss → IsHeldAndEmpty k r (step_at ss i).block)
may_cancel_gives k r ss h =
    let both = both_hold (is_not_free (state_of k r) r) (every_block (held_and_empty k r) ss) tt h in
    (not_free_if (state_of k r) r both.0, λ i l. held_and_empty_gives k r _ (every_each (held_and_empty k r) ss both.1 i l))

-- and such a route may be cancelled
pub cancel_allowed : (k : Book) (r : ℕ) (ss : List Step) → state_of k r ≢ Free → ((i : ℕ) → i < length ss → IsHeldAndEmpty k r (step_at ss i).block) → may_cancel k r ss ≡ Ok tt
cancel_allowed k r ss n h =
    ap (λ o. and_then o (every_block (held_and_empty k r) ss)) (is_not_free_ok (state_of k r) r n) ∙ each_every (held_and_empty k r) ss (λ i l. held_and_empty_ok k r _ (h i l))

-- a route that may be freed is formed, and holds no block
pub may_free_gives : (k : Book) (r : ℕ) (ss : List Step) → may_free k r ss ≡ Ok tt → (state_of k r ≡ Formed) × ((i : ℕ) → i < length ss → holder_of k (step_at ss i).block ≡ Some r → ⊥)
may_free_gives k r ss h =
    let both = both_hold (is_formed (state_of k r) r) (every_block (not_held k r) ss) tt h in
    (formed_if (state_of k r) r both.0, λ i l. not_held_if (holder_of k (step_at ss i).block) r _ (every_each (not_held k r) ss both.1 i l))
