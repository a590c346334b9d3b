-- The dangers, one by one. Assumes nothing.
use Rattle.std.specs.Prelude.{◌≡◌, ℕ, ◌<◌, ◌≤◌, true, ◌⊎◌, List, [], ◌∷◌, Some, None, Err}
use Rattle.network.specs.Judge.{Plan}
use Rattle.trackside.specs.declared.answers.Stand.{Stand}
use Rattle.trackside.specs.declared.Look.{Ghosts}
use Rattle.trackside.specs.Ground.{Ground, way_on}
use Rattle.trackside.specs.Laws.{Front}
use Rattle.book.specs.declared.refusal.Refusal.{Refusal}
use Rattle.interlocking.specs.declared.Interlocking.{Interlocking}
use Rattle.interlocking.specs.Points.{Act, Throw, Light, Move, Led}
use Rattle.interlocking.specs.Calls.{plan, cancel_guard}
use Rattle.interlocking.specs.Promises.{Event, Performed}
use Rattle.interlocking.specs.Ledger.{Ledger}
use Rattle.interlocking.specs.Trains.{route_length, route_step, There, StandsIn, RouteOf, Ahead, UnderOrAhead, StartsAt, Ready}

-- two different trains stand in one block
pub record TwoInABlock (g : Ground) : Type 0 where
  pub one : ℕ
  pub other : ℕ
  pub different : one ≡ other → ⊥
  pub block : ℕ
  pub one_stands : StandsIn g one block
  pub other_stands : StandsIn g other block

-- a train has no route
pub record WithoutRoute (p : Plan) (g : Ground) (l : Ledger) : Type 0 where
  pub train : ℕ
  pub there : There g train
  pub none : (r : ℕ) → RouteOf p g l train r → ⊥

-- a block ahead of a train in its route is not reserved for that route
pub record UnreservedAhead (p : Plan) (g : Ground) (l : Ledger) : Type 0 where
  pub train : ℕ
  pub there : There g train
  pub route : ℕ
  pub block : ℕ
  pub ahead : Ahead p g l train route block
  pub unreserved : l.holder block ≡ Some route → ⊥

-- from the end by which a train's front stand was entered no way leads
pub record NoWayOn (g : Ground) : Type 0 where
  pub train : ℕ
  pub there : There g train
  pub front : Stand
  pub is_front : Front g train front
  pub none : way_on g front ≡ None

-- a lamp is green, and no formed route that starts at it is wholly reserved, empty and rightly laid
pub record FalseGreen (p : Plan) (g : Ground) (l : Ledger) : Type 0 where
  pub block : ℕ
  pub green : g.green block ≡ true
  pub none : (r : ℕ) → StartsAt p g r block → Ready p g l r → ⊥

-- a block is reserved for a route that cancel would refuse, and no train of that route has its rear at this block or before it
pub record LostBlock {S : Type 0} (x : Interlocking S) (g : Ground) (l : Ledger) : Type 0 where
  pub block : ℕ
  pub route : ℕ
  pub reserved : l.holder block ≡ Some route
  pub why : Refusal
  pub refused : cancel_guard x route ≡ Err why
  pub none : (k i : ℕ) → There g k → (o : RouteOf (plan x) g l k route) → i < route_length (plan x) route → (route_step (plan x) route i).block ≡ block → o.rear ≤ i → ⊥

-- the dangers at rest, after the making or after a call
pub data Danger {S : Type 0} (x : Interlocking S) (g : Ground) (l : Ledger) : Type 0 where
  two_in_a_block : TwoInABlock g → Danger x g l
  without_route : WithoutRoute (plan x) g l → Danger x g l
  unreserved_ahead : UnreservedAhead (plan x) g l → Danger x g l
  no_way_on : NoWayOn g → Danger x g l
  false_green : FalseGreen (plan x) g l → Danger x g l
  lost_block : LostBlock x g l → Danger x g l

-- a point at block b was thrown, even in vain
abbrev pub Threw : List Act → ℕ → Type 0
Threw [] b = ⊥
Threw (Throw c p o ∷ acts) b = (c ≡ b) ⊎ Threw acts b
Threw (Light c l o ∷ acts) b = Threw acts b
Threw (Move m ∷ acts) b = Threw acts b

module _ {S : Type 0} (L : Ghosts S) where
  -- u is the trackside before these acts, between two of them, or after them
  abbrev pub Through : (s : S) (acts : List Act) (t : S) → Led L s acts t → S → Type 0
  Through s [] t c u = u ≡ s
  Through s (Throw b p o ∷ acts) t c u = (u ≡ s) ⊎ Through c.0 acts t c.2 u
  Through s (Light b l o ∷ acts) t c u = (u ≡ s) ⊎ Through c.0 acts t c.2 u
  Through s (Move m ∷ acts) t c u = (u ≡ s) ⊎ Through c.0 acts t c.2 u

  -- a moment of a call: the trackside before it, between its steps or after it, with the ledger as it was before the call, or
  -- after the last step as the answer makes it
  pub record Moment (x : Interlocking S) (e : Event) (y : Interlocking S) (h : Performed L x e y) (before later : Ledger) : Type 0 where
    pub at : S
    pub through : Through x.trackside h.acts y.trackside h.chain.led at
    pub ledger : Ledger
    pub is : (ledger ≡ before) ⊎ ((ledger ≡ later) × (at ≡ y.trackside))

  module _ (x : Interlocking S) (e : Event) (y : Interlocking S) (h : Performed L x e y) (before later : Ledger) where
    -- at some moment of the call block b is under a train, or ahead of it in its route
    pub record AtATrain (b : ℕ) : Type 0 where
      pub moment : Moment x e y h before later
      pub train : ℕ
      pub there : There (L.as_ground moment.at) train
      pub where_it_is : UnderOrAhead (plan x) (L.as_ground moment.at) moment.ledger train b

    -- a call threw a point under a train or ahead of it
    pub record ThrowsAtTrain : Type 0 where
      pub block : ℕ
      pub threw : Threw h.acts block
      pub near : AtATrain block

    -- a point under a train or ahead of it lies otherwise after the call than before
    pub record ShiftsAtTrain : Type 0 where
      pub block : ℕ
      pub shifted : (L.as_ground y.trackside).lies block ≡ (L.as_ground x.trackside).lies block → ⊥
      pub near : AtATrain block

    -- the dangers within a call
    pub data CallDanger : Type 0 where
      throws_at_train : ThrowsAtTrain → CallDanger
      shifts_at_train : ShiftsAtTrain → CallDanger
