-- What the book says, and how its entries change. Assumes nothing.
use Rattle.std.specs.Prelude.{ℕ, ◌+◌, min, Bool, true, false, List, replicate, None, fold, Option, slice_index_or, slice_set}
use Rattle.network.specs.declared.route.Step.{Step}
use Rattle.book.specs.declared.Book.{Book}
use Rattle.book.specs.declared.Entry.{Entry}
use Rattle.book.specs.declared.state.RouteState.{RouteState}
use Rattle.book.specs.declared.state.RouteState.TheVariants.{Free}

-- an entry that says nothing
abbrev pub blank : Entry
blank = record { holder = None; occupied = false; possessed = false }

abbrev pub entry_of : Book → ℕ → Entry
entry_of k b = slice_index_or k.blocks b blank

-- the route that block b is reserved for
abbrev pub holder_of : Book → ℕ → Option ℕ
holder_of k b = (entry_of k b).holder

abbrev pub occupied_in : Book → ℕ → Bool
occupied_in k b = (entry_of k b).occupied

abbrev pub possessed_in : Book → ℕ → Bool
possessed_in k b = (entry_of k b).possessed

abbrev pub state_of : Book → ℕ → RouteState
state_of k r = slice_index_or k.states r Free

-- nothing is reserved, occupied or in possession, and all routes are free
abbrev pub new_book : Book
new_book = record { blocks = replicate 64 blank; states = replicate 32 Free; reserves = 0 }

-- the same entry, held for another route or for none
abbrev pub held_for : Option ℕ → Entry → Entry
held_for h e = record { holder = h; occupied = e.occupied; possessed = e.possessed }

-- the entry of block b changed; a block that does not exist has none
abbrev pub changed_at : (Entry → Entry) → List Entry → ℕ → List Entry
changed_at f es b = slice_set es b (f (slice_index_or es b blank))

-- the block of each of these steps is held for h
abbrev pub marked : List Entry → List Step → Option ℕ → List Entry
marked es ss h = fold (λ xs (s : Step). changed_at (held_for h) xs s.block) es ss

abbrev pub with_state : Book → ℕ → RouteState → Book
with_state k r s = record { blocks = k.blocks; states = slice_set k.states r s; reserves = k.reserves }

abbrev pub with_holders : Book → List Step → Option ℕ → Book
with_holders k ss h = record { blocks = marked k.blocks ss h; states = k.states; reserves = k.reserves }

-- the entry of block b changed
abbrev pub with_entry : Book → ℕ → (Entry → Entry) → Book
with_entry k b f = record { blocks = changed_at f k.blocks b; states = k.states; reserves = k.reserves }

abbrev pub possessed_as : Bool → Entry → Entry
possessed_as on e = record { holder = e.holder; occupied = e.occupied; possessed = on }

abbrev pub with_possession : Book → ℕ → Bool → Book
with_possession k b on = with_entry k b (possessed_as on)

abbrev pub reached : Entry → Entry
reached e = record { holder = e.holder; occupied = true; possessed = e.possessed }

abbrev pub with_occupied : Book → ℕ → Book
with_occupied k b = with_entry k b reached

-- unoccupied and free
abbrev pub cleared : Entry → Entry
cleared e = record { holder = None; occupied = false; possessed = e.possessed }

abbrev pub with_cleared : Book → ℕ → Book
with_cleared k b = with_entry k b cleared

-- one accepted reserve more; the count stays at its largest number
abbrev pub counted : Book → Book
counted k = record { blocks = k.blocks; states = k.states; reserves = min (k.reserves + 1) 4294967295 }
