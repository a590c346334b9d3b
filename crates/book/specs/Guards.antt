-- What must hold of the book before a call changes it; the first guard that fails gives the refusal. Assumes nothing.
use Rattle.std.specs.Prelude.{ℕ, Bool, true, false, cond, List, [], ◌∷◌, Some, None, Ok, Err, Option, Result, ◌==◌}
use Rattle.network.specs.declared.route.Step.{Step}
use Rattle.book.specs.declared.Book.{Book}
use Rattle.book.specs.declared.state.RouteState.{RouteState}
use Rattle.book.specs.declared.state.RouteState.TheVariants.{Free, Reserved, Formed}
use Rattle.book.specs.declared.refusal.Refusal.{Refusal}
use Rattle.book.specs.declared.refusal.Refusal.TheVariants.{RouteNotFree, InPossession, BlockReserved, RouteNotReserved, RouteNotFormed, BlockNotHeld, BlockOccupied, StillHolds, RouteFree, NotInPossession as NotPossessed}
use Rattle.book.specs.Books.{holder_of, occupied_in, possessed_in, state_of}

-- one guard, and then another
abbrev pub and_then : {A : Type 0} → Result Unit Refusal → Result A Refusal → Result A Refusal
and_then (Ok u) next = next
and_then (Err e) next = Err e

abbrev pub refused_if : Bool → Refusal → Result Unit Refusal
refused_if true e = Err e
refused_if false e = Ok tt

abbrev pub is_route : Option ℕ → ℕ → Bool
is_route None r = false
is_route (Some q) r = q == r

-- block b is reserved for route r
abbrev pub holds : Book → ℕ → ℕ → Bool
holds k r b = is_route (holder_of k b) r

abbrev pub reserved_if : Option ℕ → ℕ → Result Unit Refusal
reserved_if None b = Ok tt
reserved_if (Some q) b = Err (BlockReserved b)

abbrev pub not_possessed : Book → ℕ → Result Unit Refusal
not_possessed k b = refused_if (possessed_in k b) (InPossession b)

abbrev pub not_reserved : Book → ℕ → Result Unit Refusal
not_reserved k b = reserved_if (holder_of k b) b

-- the block is reserved for the route, and not occupied
abbrev pub held_and_empty : Book → ℕ → ℕ → Result Unit Refusal
held_and_empty k r b = cond (holds k r b) (refused_if (occupied_in k b) (BlockOccupied b)) (Err (BlockNotHeld b))

abbrev pub not_held : Book → ℕ → ℕ → Result Unit Refusal
not_held k r b = refused_if (holds k r b) (StillHolds b)

-- it is asked of each in turn
abbrev pub every : {A : Type 0} → (A → Result Unit Refusal) → List A → Result Unit Refusal
every asked [] = Ok tt
every asked (x ∷ xs) = and_then (asked x) (every asked xs)

-- it is asked of each block, in the order of the route
abbrev pub every_block : (ℕ → Result Unit Refusal) → List Step → Result Unit Refusal
every_block asked ss = every (λ (s : Step). asked s.block) ss

abbrev pub is_free : RouteState → ℕ → Result Unit Refusal
is_free Free r = Ok tt
is_free Reserved r = Err (RouteNotFree r)
is_free Formed r = Err (RouteNotFree r)

abbrev pub is_reserved : RouteState → ℕ → Result Unit Refusal
is_reserved Free r = Err (RouteNotReserved r)
is_reserved Reserved r = Ok tt
is_reserved Formed r = Err (RouteNotReserved r)

abbrev pub is_formed : RouteState → ℕ → Result Unit Refusal
is_formed Free r = Err (RouteNotFormed r)
is_formed Reserved r = Err (RouteNotFormed r)
is_formed Formed r = Ok tt

abbrev pub is_not_free : RouteState → ℕ → Result Unit Refusal
is_not_free Free r = Err (RouteFree r)
is_not_free Reserved r = Ok tt
is_not_free Formed r = Ok tt

-- the route is free, no block of it is in possession, and none is reserved
abbrev pub may_reserve : Book → ℕ → List Step → Result Unit Refusal
may_reserve k r ss = and_then (is_free (state_of k r) r) (and_then (every_block (not_possessed k) ss) (every_block (not_reserved k) ss))

-- the route is reserved, and not formed yet
abbrev pub may_lay : Book → ℕ → Result Unit Refusal
may_lay k r = is_reserved (state_of k r) r

-- the route is formed, and each block is reserved for it and not occupied
abbrev pub may_open : Book → ℕ → List Step → Result Unit Refusal
may_open k r ss = and_then (is_formed (state_of k r) r) (every_block (held_and_empty k r) ss)

-- the route is not free, and each block is reserved for it and not occupied
abbrev pub may_cancel : Book → ℕ → List Step → Result Unit Refusal
may_cancel k r ss = and_then (is_not_free (state_of k r) r) (every_block (held_and_empty k r) ss)

-- the route is formed, and holds no block any more
abbrev pub may_free : Book → ℕ → List Step → Result Unit Refusal
may_free k r ss = and_then (is_formed (state_of k r) r) (every_block (not_held k r) ss)

-- the block is not in possession, and not reserved
abbrev pub may_take : Book → ℕ → Result Unit Refusal
may_take k b = and_then (not_possessed k b) (not_reserved k b)

abbrev pub may_give : Book → ℕ → Result Unit Refusal
may_give k b = cond (possessed_in k b) (Ok tt) (Err (NotPossessed b))
