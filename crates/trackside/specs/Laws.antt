-- What a throw, a light and a move may do to the ground. Assumes nothing.
use Rattle.std.specs.Prelude.{◌≡◌, ℕ, suc, ◌<◌, ◌≤◌, Bool, true, false, ◌⊎◌, List, [], ◌∷◌, ◌++◌, length, get_or, take, drop, Some, Result, Ok, Err, ◌≢◌, slice_index_or, slice_set}
use Rattle.network.specs.declared.track.Kind.TheVariants.{Point}
use Rattle.network.specs.declared.track.Position.{Position}
use Rattle.network.specs.declared.track.Joint.TheVariants.{Outer, Joined}
use Rattle.trackside.specs.declared.answers.Lamp.{Lamp}
use Rattle.trackside.specs.declared.answers.Lamp.TheVariants.{Red, Green}
use Rattle.trackside.specs.declared.answers.Stuck.{Stuck}
use Rattle.trackside.specs.declared.answers.Fault.{Fault}
use Rattle.trackside.specs.declared.answers.Moved.{Moved}
use Rattle.trackside.specs.declared.answers.Moved.TheVariants.{Quiet, Enter, Forward, Clear}
use Rattle.trackside.specs.declared.answers.Stand.{Stand}
use Rattle.trackside.specs.Ground.{no_stand, Ground, shows_green, train, lamp_end, way_on, any_stands_in, WellMade}

-- what is built stays
pub record Built (g h : Ground) : Type 0 where
  pub count : h.count ≡ g.count
  pub kind : (b : ℕ) → h.kind b ≡ g.kind b
  pub joint : (b e : ℕ) → h.joint b e ≡ g.joint b e

pub record PointsStay (g h : Ground) : Type 0 where
  pub lies : (b : ℕ) → h.lies b ≡ g.lies b

pub record LampsStay (g h : Ground) : Type 0 where
  pub green : (b : ℕ) → h.green b ≡ g.green b

-- trains stand as before, and blocks are occupied as before
pub record TrainsStay (g h : Ground) : Type 0 where
  pub trains : h.trains ≡ g.trains
  pub occupied : (b : ℕ) → h.occupied b ≡ g.occupied b

-- block b is a point, and lies as told
abbrev pub LiesAsTold : Ground → ℕ → Position → Type 0
LiesAsTold g b p = (g.kind b ≡ Some Point) × (g.lies b ≡ p)

-- a throw: the point lies as told or as before, and nothing else changes; done exactly if a point is there and lies as told
pub record Thrown (g : Ground) (b : ℕ) (p : Position) (a : Result Unit Stuck) (h : Ground) : Type 0 where
  pub built : Built g h
  pub lies : (h.lies b ≡ p) ⊎ (h.lies b ≡ g.lies b)
  pub others : (c : ℕ) → (c ≢ b) → h.lies c ≡ g.lies c
  pub lamps : LampsStay g h
  pub trains : TrainsStay g h
  pub told : a ≡ Ok tt → LiesAsTold h b p
  pub done : LiesAsTold h b p → a ≡ Ok tt

-- a lamp stands at block b, and shows what was told
abbrev pub ShowsAsTold : Ground → ℕ → Lamp → Type 0
ShowsAsTold g b l = ((e : ℕ) × (lamp_end g b ≡ Some e)) × (g.green b ≡ shows_green l)

-- red lands; green lands, or the lamp stays as it was
abbrev pub Lands : Lamp → Bool → Bool → Type 0
Lands Red was is = is ≡ false
Lands Green was is = (is ≡ true) ⊎ (is ≡ was)

-- a light: nothing else changes; done exactly if a lamp is there and shows what was told
pub record Lit (g : Ground) (b : ℕ) (l : Lamp) (a : Result Unit Stuck) (h : Ground) : Type 0 where
  pub built : Built g h
  pub points : PointsStay g h
  pub lands : Lands l (g.green b) (h.green b)
  pub others : (c : ℕ) → (c ≢ b) → h.green c ≡ g.green c
  pub trains : TrainsStay g h
  pub told : a ≡ Ok tt → ShowsAsTold h b l
  pub done : ShowsAsTold h b l → a ≡ Ok tt

-- a new train, the last in number, enters block b past its green lamp, which turns red
pub record Enters (g : Ground) (k b : ℕ) (h : Ground) : Type 0 where
  pub end : ℕ
  pub at : lamp_end g b ≡ Some end
  pub lit : g.green b ≡ true
  pub number : k ≡ length g.trains
  pub trains : h.trains ≡ g.trains ++ ((record { block = b; entered = end } ∷ []) ∷ [])
  pub red : h.green b ≡ false
  pub others : (c : ℕ) → (c ≢ b) → h.green c ≡ g.green c
  pub built : Built g h
  pub points : PointsStay g h

-- the front of train k: its last stand
abbrev pub Front : Ground → ℕ → Stand → Type 0
Front g k s = (i : ℕ) × (suc i ≡ length (train g k)) × (slice_index_or (train g k) i no_stand ≡ s)

-- the front of train k goes by a way to a joined end, and into the block b across
pub record Forwards (g : Ground) (k b : ℕ) (h : Ground) : Type 0 where
  pub there : k < length g.trains
  pub front : Stand
  pub is_front : Front g k front
  pub end : ℕ
  pub leads : way_on g front ≡ Some end
  pub entered : ℕ
  pub across : g.joint front.block end ≡ Joined b entered
  pub trains : h.trains ≡ slice_set g.trains k (train g k ++ (record { block = b; entered = entered } ∷ []))
  pub built : Built g h
  pub points : PointsStay g h
  pub lamps : LampsStay g h

abbrev pub without : List (List Stand) → ℕ → List (List Stand)
without ts k = take k ts ++ drop (suc k) ts

-- train k, which has two stands or more, loses its rear one
pub record Shortens (g : Ground) (k : ℕ) (h : Ground) : Type 0 where
  pub long : 2 ≤ length (train g k)
  pub trains : h.trains ≡ slice_set g.trains k (drop 1 (train g k))

-- train k, which has one stand, leaves by a way to an outer end, and closes the gap in the numbers
pub record Leaves (g : Ground) (k : ℕ) (h : Ground) : Type 0 where
  pub short : length (train g k) ≡ 1
  pub end : ℕ
  pub leads : way_on g (slice_index_or (train g k) 0 no_stand) ≡ Some end
  pub out : g.joint (get_or (train g k) 0 no_stand).block end ≡ Outer
  pub trains : h.trains ≡ without g.trains k

-- the rear of train k clears block b
pub record Clears (g : Ground) (k b : ℕ) (h : Ground) : Type 0 where
  pub there : k < length g.trains
  pub rear : (get_or (train g k) 0 no_stand).block ≡ b
  pub how : Shortens g k h ⊎ Leaves g k h
  pub built : Built g h
  pub points : PointsStay g h
  pub lamps : LampsStay g h

-- a fault and a quiet move leave all as it is
abbrev pub Moves : Ground → Result Moved Fault → Ground → Type 0
Moves g (Err f) h = h ≡ g
Moves g (Ok Quiet) h = h ≡ g
Moves g (Ok (Enter k b)) h = Enters g k b h
Moves g (Ok (Forward k b)) h = Forwards g k b h
Moves g (Ok (Clear k b)) h = Clears g k b h

module _ {S : Type 0} (as_ground : S → Ground) (throws : S → ℕ → Position → Result Unit Stuck → S → Type 0) (lights : S → ℕ → Lamp → Result Unit Stuck → S → Type 0) (moves : S → Result Moved Fault → S → Type 0) where
  -- no train, and no step leads from here
  pub record Frozen (s : S) : Type 0 where
    pub trains : (as_ground s).trains ≡ []
    pub thrown : (b : ℕ) (p : Position) (a : Result Unit Stuck) (t : S) → throws s b p a t → ⊥
    pub lit : (b : ℕ) (l : Lamp) (a : Result Unit Stuck) (t : S) → lights s b l a t → ⊥
    pub moved : (m : Result Moved Fault) (t : S) → moves s m t → ⊥

-- a block is occupied exactly where a train stands
abbrev pub Live : Ground → Type 0
Live g = (b : ℕ) → g.occupied b ≡ any_stands_in g.trains b

-- the laws of a make: its ground is well made, its blocks are occupied where trains stand or it is a picture that never
-- changes, and its steps do what a throw, a light and a move may do
pub record Lawful {S : Type 0} (most : ℕ) (as_ground : S → Ground) (throws : S → ℕ → Position → Result Unit Stuck → S → Type 0) (lights : S → ℕ → Lamp → Result Unit Stuck → S → Type 0) (moves : S → Result Moved Fault → S → Type 0) : Type 0 where
  pub made : (s : S) → WellMade most (as_ground s)
  pub live : (s : S) → Live (as_ground s) ⊎ Frozen as_ground throws lights moves s
  pub throwing : (s t : S) (b : ℕ) (p : Position) (a : Result Unit Stuck) → throws s b p a t → Thrown (as_ground s) b p a (as_ground t)
  pub lighting : (s t : S) (b : ℕ) (l : Lamp) (a : Result Unit Stuck) → lights s b l a t → Lit (as_ground s) b l a (as_ground t)
  pub moving : (s t : S) (m : Result Moved Fault) → moves s m t → Moves (as_ground s) m (as_ground t)
