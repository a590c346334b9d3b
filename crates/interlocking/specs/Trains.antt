-- Trains and the routes that they run. Assumes nothing.
use Rattle.std.specs.Prelude.{◌≡◌, ℕ, ◌+◌, ◌<◌, ◌≤◌, ◌⊎◌, length, get_or, Some, slice_index_or}
use Rattle.network.specs.declared.route.Step.{Step}
use Rattle.network.specs.declared.track.Position.{Position}
use Rattle.network.specs.Judge.{Plan}
use Rattle.network.specs.Rules.{step_at, steps_at}
use Rattle.trackside.specs.declared.answers.Stand.{Stand}
use Rattle.trackside.specs.Ground.{Ground, no_stand, train, lamp_end}
use Rattle.book.specs.declared.state.RouteState.TheVariants.{Formed}
use Rattle.interlocking.specs.Ledger.{Ledger}

-- how many steps route r has
abbrev pub route_length : Plan → ℕ → ℕ
route_length p r = length (steps_at p.routes r)

-- the i-th step of route r
abbrev pub route_step : Plan → ℕ → ℕ → Step
route_step p r i = step_at (steps_at p.routes r) i

-- where a train stands that has reached a step
abbrev pub stand_of : Step → Stand
stand_of s = record { block = s.block; entered = s.entered }

-- there is a train k
abbrev pub There : Ground → ℕ → Type 0
There g k = k < length g.trains

-- train k stands in block b
pub record StandsIn (g : Ground) (k b : ℕ) : Type 0 where
  pub at : ℕ
  pub within : at < length (train g k)
  pub is : (get_or (train g k) at no_stand).block ≡ b

-- r is the route of train k: it is formed, the train's stands are consecutive steps of it, ends entered included, and all the
-- train's blocks are reserved for it
pub record RouteOf (p : Plan) (g : Ground) (l : Ledger) (k r : ℕ) : Type 0 where
  pub formed : l.state r ≡ Formed
  -- the step in which the train's rear stands
  pub rear : ℕ
  pub fits : rear + length (train g k) ≤ route_length p r
  pub stands : (i : ℕ) → i < length (train g k) → slice_index_or (train g k) i no_stand ≡ stand_of (route_step p r (rear + i))
  pub reserved : (i : ℕ) → i < length (train g k) → l.holder (get_or (train g k) i no_stand).block ≡ Some r

-- block b lies ahead of train k: later in its route than its front
pub record Ahead (p : Plan) (g : Ground) (l : Ledger) (k r b : ℕ) : Type 0 where
  pub runs : RouteOf p g l k r
  pub at : ℕ
  pub later : runs.rear + length (train g k) ≤ at
  pub within : at < route_length p r
  pub is : (route_step p r at).block ≡ b

-- block b is under train k, or ahead of it in its route
abbrev pub UnderOrAhead : Plan → Ground → Ledger → ℕ → ℕ → Type 0
UnderOrAhead p g l k b = StandsIn g k b ⊎ ((r : ℕ) × Ahead p g l k r b)

-- route r starts at the lamp of block b: b is its first block, and the lamp stands at the end by which it is entered
pub record StartsAt (p : Plan) (g : Ground) (r b : ℕ) : Type 0 where
  pub some : 0 < route_length p r
  pub first : (route_step p r 0).block ≡ b
  pub end : lamp_end g b ≡ Some (route_step p r 0).entered

-- a train may be let into route r: it is formed, wholly reserved, empty and rightly laid
pub record Ready (p : Plan) (g : Ground) (l : Ledger) (r : ℕ) : Type 0 where
  pub formed : l.state r ≡ Formed
  pub reserved : (i : ℕ) → i < route_length p r → l.holder (route_step p r i).block ≡ Some r
  pub empty : (i k : ℕ) → i < route_length p r → StandsIn g k (route_step p r i).block → ⊥
  pub laid : (i : ℕ) (q : Position) → i < route_length p r → (route_step p r i).needs ≡ Some q → g.lies (route_step p r i).block ≡ q
