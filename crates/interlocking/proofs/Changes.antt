-- What the dispatcher does and what trains do, taken apart into acts that change one thing each. Assumes nothing.
use Rattle.std.proofs.Common.{◌≡◌, ℕ, suc, ◌<◌, ◌≤◌, true, false, ◌≢◌, ◌⊎◌, List, [], ◌∷◌, ◌++◌, length, get_or, take, drop, set, Some, None, Option}
use Rattle.trackside.specs.declared.answers.Stand.{Stand}
use Rattle.trackside.specs.Ground.{no_stand}
use Rattle.book.specs.declared.state.RouteState.TheVariants.{Free, Reserved, Formed}
use Rattle.interlocking.proofs.Track.{Layout, block, needs, Suits, World, train, lies, green, holder, state, under, Occupied, BlockOf, Held}

-- a column of the ledger or of the lamps, f before and f' after, is changed to v at x and nowhere else
pub record Put {A : Type 0} (x : ℕ) (v : A) (f f' : ℕ → A) : Type 0 where
  pub here : f' x ≡ v
  pub else : (y : ℕ) → (y ≡ x) ⊎ (f' y ≡ f y)

-- of the blocks, those of route r are now held for v, and all others as before
pub record PutAll (s : Layout) (r : ℕ) (v : Option ℕ) (f f' : ℕ → Option ℕ) : Type 0 where
  pub here : (i : ℕ) → i < s.len r → f' (block s r i) ≡ v
  pub else : (b : ℕ) → BlockOf s r b ⊎ (f' b ≡ f b)

-- a free route is reserved: all its blocks, held for no route before, are held for it
pub record Reserves (s : Layout) (r : ℕ) (w w' : World) : Type 0 where
  pub real : 0 < s.len r
  pub was : state w r ≡ Free
  pub unheld : (i : ℕ) → i < s.len r → holder w (block s r i) ≡ None
  pub holds : PutAll s r (Some r) (holder w) (holder w')
  pub becomes : Put r Reserved (state w) (state w')
  pub same : w'.as_ground ≡ w.as_ground

-- the point of the i-th step of a reserved route is thrown; in vain it stays as it lay
pub record Throws (s : Layout) (r i : ℕ) (w w' : World) : Type 0 where
  pub was : state w r ≡ Reserved
  pub within : i < s.len r
  pub lie : (b : ℕ) → (b ≡ block s r i) ⊎ (lies w' b ≡ lies w b)
  pub lamps : (b : ℕ) → green w' b ≡ green w b
  pub trains : w'.as_ground.trains ≡ w.as_ground.trains
  pub same : w'.ledger ≡ w.ledger

-- a reserved route whose points all lie as it needs is formed
pub record Forms (s : Layout) (r : ℕ) (w w' : World) : Type 0 where
  pub was : state w r ≡ Reserved
  pub set : (i : ℕ) → i < s.len r → Suits (needs s r i) (lies w (block s r i))
  pub becomes : Put r Formed (state w) (state w')
  pub holds : (b : ℕ) → holder w' b ≡ holder w b
  pub same : w'.as_ground ≡ w.as_ground

-- the lamp at the start of a formed route is told green: the route holds all its blocks, and no train is on it
pub record Opens (s : Layout) (r : ℕ) (w w' : World) : Type 0 where
  pub was : state w r ≡ Formed
  pub real : 0 < s.len r
  pub held : (i : ℕ) → i < s.len r → Held s w r i
  pub empty : (i : ℕ) → i < s.len r → Occupied w (block s r i) → ⊥
  pub lie : (b : ℕ) → lies w' b ≡ lies w b
  pub lamps : (b : ℕ) → (b ≡ block s r 0) ⊎ (green w' b ≡ green w b)
  pub trains : w'.as_ground.trains ≡ w.as_ground.trains
  pub same : w'.ledger ≡ w.ledger

-- a route that holds all its blocks, with no train on it, is taken back, and its lamp is put to red
pub record Cancels (s : Layout) (r : ℕ) (w w' : World) : Type 0 where
  pub was : state w r ≢ Free
  pub held : (i : ℕ) → i < s.len r → Held s w r i
  pub empty : (i : ℕ) → i < s.len r → Occupied w (block s r i) → ⊥
  pub holds : PutAll s r None (holder w) (holder w')
  pub becomes : Put r Free (state w) (state w')
  pub lie : (b : ℕ) → lies w' b ≡ lies w b
  pub lamps : Put (block s r 0) false (green w) (green w')
  pub trains : w'.as_ground.trains ≡ w.as_ground.trains

-- a formed route that holds no block any more is closed
pub record Frees (s : Layout) (r : ℕ) (w w' : World) : Type 0 where
  pub was : state w r ≡ Formed
  pub unheld : (i : ℕ) → i < s.len r → Held s w r i → ⊥
  pub becomes : Put r Free (state w) (state w')
  pub holds : (b : ℕ) → holder w' b ≡ holder w b
  pub same : w'.as_ground ≡ w.as_ground

-- from the i-th stand of a train a way leads to the end e
abbrev pub Leads : Layout → World → List Stand → ℕ → ℕ → Type 0
Leads s w t i e = s.way (under t i) (lies w (under t i)) (get_or t i no_stand).entered ≡ Some e

-- a new train enters block b by the end e past its green lamp, which turns red
pub record Enters (s : Layout) (b e : ℕ) (w w' : World) : Type 0 where
  pub lit : green w b ≡ true
  pub at : s.gate b ≡ Some e
  pub trains : w'.as_ground.trains ≡ w.as_ground.trains ++ ((record { block = b; entered = e } ∷ []) ∷ [])
  pub lie : (c : ℕ) → lies w' c ≡ lies w c
  pub lamps : Put b false (green w) (green w')
  pub same : w'.ledger ≡ w.ledger

-- the front of train k, its i-th stand, goes on by the end e to the stand c across
pub record Forwards (s : Layout) (k i e : ℕ) (c : Stand) (w w' : World) : Type 0 where
  pub there : k < length w.as_ground.trains
  pub front : suc i ≡ length (train w k)
  pub leads : Leads s w (train w k) i e
  pub to : s.joint (under (train w k) i) e ≡ Some c
  pub trains : w'.as_ground.trains ≡ set w.as_ground.trains k (train w k ++ (c ∷ []))
  pub lie : (b : ℕ) → lies w' b ≡ lies w b
  pub lamps : (b : ℕ) → green w' b ≡ green w b
  pub same : w'.ledger ≡ w.ledger

-- the rear of train k clears its block, which is reserved for no route from then on
pub record Clears (s : Layout) (k : ℕ) (w w' : World) : Type 0 where
  pub there : k < length w.as_ground.trains
  pub long : 2 ≤ length (train w k)
  pub trains : w'.as_ground.trains ≡ set w.as_ground.trains k (drop 1 (train w k))
  pub lie : (b : ℕ) → lies w' b ≡ lies w b
  pub lamps : (b : ℕ) → green w' b ≡ green w b
  pub holds : Put (under (train w k) 0) None (holder w) (holder w')
  pub states : (r : ℕ) → state w' r ≡ state w r

-- train k, in one block only, leaves the track by the outer end e, and its block is reserved for no route from then on
pub record Leaves (s : Layout) (k e : ℕ) (w w' : World) : Type 0 where
  pub there : k < length w.as_ground.trains
  pub one : length (train w k) ≡ 1
  pub leads : Leads s w (train w k) 0 e
  pub out : s.joint (under (train w k) 0) e ≡ None
  pub trains : w'.as_ground.trains ≡ take k w.as_ground.trains ++ drop (suc k) w.as_ground.trains
  pub lie : (b : ℕ) → lies w' b ≡ lies w b
  pub lamps : (b : ℕ) → green w' b ≡ green w b
  pub holds : Put (under (train w k) 0) None (holder w) (holder w')
  pub states : (r : ℕ) → state w' r ≡ state w r

-- one act of the dispatcher or one movement of a train
pub data Act (s : Layout) (w w' : World) : Type 0 where
  reserve : (r : ℕ) → Reserves s r w w' → Act s w w'
  throw : (r i : ℕ) → Throws s r i w w' → Act s w w'
  form : (r : ℕ) → Forms s r w w' → Act s w w'
  open_lamp : (r : ℕ) → Opens s r w w' → Act s w w'
  cancel : (r : ℕ) → Cancels s r w w' → Act s w w'
  let_free : (r : ℕ) → Frees s r w w' → Act s w w'
  enter : (b e : ℕ) → Enters s b e w w' → Act s w w'
  forward : (k i e : ℕ) (c : Stand) → Forwards s k i e c w w' → Act s w w'
  clear : (k : ℕ) → Clears s k w w' → Act s w w'
  leave : (k e : ℕ) → Leaves s k e w w' → Act s w w'

-- before the first act: no train, no green lamp, no block reserved, every route free
pub record Start (w : World) : Type 0 where
  pub trains : w.as_ground.trains ≡ []
  pub dark : (b : ℕ) → green w b ≡ false
  pub unheld : (b : ℕ) → holder w b ≡ None
  pub idle : (r : ℕ) → state w r ≡ Free
