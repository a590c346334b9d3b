-- The layout of the track, and how trains, routes and blocks stand to each other. Assumes nothing.
use Rattle.std.proofs.Common.{◌≡◌, ℕ, suc, ◌+◌, ◌<◌, ◌≤◌, Bool, ◌≢◌, List, [], length, get_or, Some, None, Option}
use Rattle.network.specs.declared.track.Position.{Position}
use Rattle.trackside.specs.declared.answers.Stand.{Stand}
use Rattle.trackside.specs.Ground.{Ground, no_stand}
use Rattle.book.specs.declared.state.RouteState.{RouteState}
use Rattle.book.specs.declared.state.RouteState.TheVariants.{Free, Formed}
use Rattle.interlocking.specs.Ledger.{Ledger}

-- one block of a route: where a train stands in it, the end by which it leaves, and the position that its point must have
pub record Step : Type 0 where
  pub stand : Stand
  pub left : ℕ
  pub needs : Option Position

-- what is built and never changes: the routes, the ways through each block, the joints, and the end of each block that has a lamp
pub record Layout : Type 0 where
  -- how many steps a route has: none where there is no such route
  pub len : ℕ → ℕ
  pub step : ℕ → ℕ → Step
  pub way : ℕ → Position → ℕ → Option ℕ
  pub joint : ℕ → ℕ → Option Stand
  pub gate : ℕ → Option ℕ

-- a point that lies in position p suits what a step needs
abbrev pub Suits : Option Position → Position → Type 0
Suits None p = Unit {0}
Suits (Some q) p = p ≡ q

-- the block of the i-th step of route r
abbrev pub block : Layout → ℕ → ℕ → ℕ
block s r i = (s.step r i).stand.block

-- the position that the i-th step of route r needs
abbrev pub needs : Layout → ℕ → ℕ → Option Position
needs s r i = (s.step r i).needs

-- a layout whose routes can be run: no block twice, a way through each block, each step joined to the next, from lamp to outer end
pub record Sound (s : Layout) : Type 0 where
  pub distinct : (r i j : ℕ) → i < s.len r → j < s.len r → block s r i ≡ block s r j → i ≡ j
  pub leads : (r i : ℕ) → i < s.len r → (p : Position) → Suits (needs s r i) p → s.way (block s r i) p (s.step r i).stand.entered ≡ Some (s.step r i).left
  pub joins : (r i : ℕ) → suc i < s.len r → s.joint (block s r i) (s.step r i).left ≡ Some (s.step r (suc i)).stand
  pub begins : (r : ℕ) → 0 < s.len r → s.gate (block s r 0) ≡ Some (s.step r 0).stand.entered
  pub ends : (r i : ℕ) → suc i ≡ s.len r → s.joint (block s r i) (s.step r i).left ≡ None

-- the track as it is, and the ledger as it is
pub record World : Type 0 where
  pub as_ground : Ground
  pub ledger : Ledger

-- the k-th train, rear first; [] if there is none
abbrev pub train : World → ℕ → List Stand
train w k = get_or w.as_ground.trains k []

-- how the point of each block lies
abbrev pub lies : World → ℕ → Position
lies w = w.as_ground.lies

-- whether the lamp of each block is green
abbrev pub green : World → ℕ → Bool
green w = w.as_ground.green

-- the route that each block is reserved for
abbrev pub holder : World → ℕ → Option ℕ
holder w = w.ledger.holder

-- where each route stands
abbrev pub state : World → ℕ → RouteState
state w = w.ledger.state

-- the block of the i-th stand of a train
abbrev pub under : List Stand → ℕ → ℕ
under t i = (get_or t i no_stand).block

-- a train stands in block b
pub record Occupied (w : World) (b : ℕ) : Type 0 where
  pub by : ℕ
  pub at : ℕ
  pub within : at < length (train w by)
  pub is : under (train w by) at ≡ b

-- route r runs through block b
pub record BlockOf (s : Layout) (r b : ℕ) : Type 0 where
  pub at : ℕ
  pub within : at < s.len r
  pub is : block s r at ≡ b

-- the block of the i-th step of route r is reserved for r
abbrev pub Held : Layout → World → ℕ → ℕ → Type 0
Held s w r i = holder w (block s r i) ≡ Some r

-- route r is formed, holds its blocks from the m-th on and none before, and the points there lie as it needs
pub record Runs (s : Layout) (w : World) (r m : ℕ) : Type 0 where
  pub is : state w r ≡ Formed
  pub held : (i : ℕ) → m ≤ i → i < s.len r → Held s w r i
  pub gone : (i : ℕ) → i < m → i < s.len r → Held s w r i → ⊥
  pub set : (i : ℕ) → m ≤ i → i < s.len r → Suits (needs s r i) (lies w (block s r i))

-- a train with the stands t is on route r: its rear is in the step `rear`, and the route runs from there
pub record Rides (s : Layout) (w : World) (r : ℕ) (t : List Stand) : Type 0 where
  pub rear : ℕ
  pub runs : Runs s w r rear
  pub some : 0 < length t
  pub fits : rear + length t ≤ s.len r
  pub stands : (i : ℕ) → i < length t → get_or t i no_stand ≡ (s.step r (rear + i)).stand

-- route r is formed, all of it is reserved for it, and no train is on it
pub record Ready (s : Layout) (w : World) (r : ℕ) : Type 0 where
  pub real : 0 < s.len r
  pub whole : Runs s w r 0
  pub empty : (i : ℕ) → i < s.len r → Occupied w (block s r i) → ⊥

-- a cancelling of route r would be accepted
pub record Cancellable (s : Layout) (w : World) (r : ℕ) : Type 0 where
  pub made : state w r ≢ Free
  pub held : (i : ℕ) → i < s.len r → Held s w r i
  pub empty : (i : ℕ) → i < s.len r → Occupied w (block s r i) → ⊥

-- some train on route r has its rear at the step i or before it
pub record Coming (s : Layout) (w : World) (r i : ℕ) : Type 0 where
  pub by : ℕ
  pub on : Rides s w r (train w by)
  pub before : on.rear ≤ i

-- no two trains stand in one block
abbrev pub Apart : World → Type 0
Apart w = (j k x y : ℕ) → x < length (train w j) → y < length (train w k) → under (train w j) x ≡ under (train w k) y → j ≡ k
