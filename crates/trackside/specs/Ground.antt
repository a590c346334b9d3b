-- The ground: a yard as it is, with its points, lamps and trains. Assumes nothing.
use Rattle.std.specs.Prelude.{◌≡◌, ℕ, ◌<◌, ◌≤◌, Bool, true, false, List, [], length, get_or, Some, None, Option, ◌==◌, ◌≢◌, slice_index_or}
use Rattle.std.specs.List.{list_any}
use Rattle.network.specs.declared.track.Kind.{Kind}
use Rattle.network.specs.declared.track.Kind.TheVariants.{Plain, Point, Crossing}
use Rattle.network.specs.declared.track.Position.{Position}
use Rattle.network.specs.declared.track.Position.TheVariants.{Left}
use Rattle.network.specs.declared.track.Joint.{Joint}
use Rattle.network.specs.declared.track.Joint.TheVariants.{Outer, Joined}
use Rattle.network.specs.Ways.{way_of}
use Rattle.trackside.specs.declared.answers.Lamp.{Lamp}
use Rattle.trackside.specs.declared.answers.Lamp.TheVariants.{Red, Green}
use Rattle.trackside.specs.declared.answers.Stand.{Stand}

abbrev pub no_stand : Stand
no_stand = record { block = 0; entered = 0 }

-- blocks by number; trains by number, in the order of entering, each as its stands, rear first.
-- What does not exist has no kind, is an outer end, lies left, is not green and not occupied.
pub record Ground : Type 0 where
  pub count : ℕ
  pub kind : ℕ → Option Kind
  pub joint : ℕ → ℕ → Joint
  pub lies : ℕ → Position
  pub green : ℕ → Bool
  pub occupied : ℕ → Bool
  pub trains : List (List Stand)

abbrev pub lamp_of : Bool → Lamp
lamp_of true = Green
lamp_of false = Red

abbrev pub shows_green : Lamp → Bool
shows_green Green = true
shows_green Red = false

-- how many ends a block of each kind has
abbrev pub ends_count : Kind → ℕ
ends_count Plain = 2
ends_count Point = 3
ends_count Crossing = 4

-- the k-th train; [] if there is none
abbrev pub train : Ground → ℕ → List Stand
train g k = slice_index_or g.trains k []

abbrev pub outer_first : Joint → Joint → Option ℕ
outer_first Outer j = Some 0
outer_first (Joined c f) Outer = Some 1
outer_first (Joined c f) (Joined d h) = None

abbrev pub lamp_end_of : Option Kind → Joint → Joint → Option ℕ
lamp_end_of None a b = None
lamp_end_of (Some Plain) a b = outer_first a b
lamp_end_of (Some Point) a b = None
lamp_end_of (Some Crossing) a b = None

-- the end at which a lamp stands: the outer end of a border block
abbrev pub lamp_end : Ground → ℕ → Option ℕ
lamp_end g b = lamp_end_of (g.kind b) (g.joint b 0) (g.joint b 1)

abbrev pub way_in : Option Kind → ℕ → Position → Option ℕ
way_in None e p = None
way_in (Some k) e p = way_of k e p

-- the end to which a way leads from where a train stands, as the point there lies
abbrev pub way_on : Ground → Stand → Option ℕ
way_on g s = way_in (g.kind s.block) s.entered (g.lies s.block)

abbrev pub stands_in : List Stand → ℕ → Bool
stands_in ss b = list_any (λ s. s.block == b) ss

-- some train stands in block b
abbrev pub any_stands_in : List (List Stand) → ℕ → Bool
any_stands_in ts b = list_any (λ t. stands_in t b) ts

-- what holds of every ground of a make that carries at most `most` blocks
pub record WellMade (most : ℕ) (g : Ground) : Type 0 where
  pub carried : g.count ≤ most
  pub few : g.count ≤ 64
  pub known : (b : ℕ) → b < g.count → (k : Kind) × (g.kind b ≡ Some k)
  pub unknown : (b : ℕ) → g.count ≤ b → g.kind b ≡ None
  pub unjoined : (b e : ℕ) → g.count ≤ b → g.joint b e ≡ Outer
  pub no_end : (b e : ℕ) (k : Kind) → g.kind b ≡ Some k → ends_count k ≤ e → g.joint b e ≡ Outer
  pub points : (b : ℕ) → (g.kind b ≢ Some Point) → g.lies b ≡ Left
  pub lamps : (b : ℕ) → g.green b ≡ true → (e : ℕ) × (lamp_end g b ≡ Some e)
  pub some_stand : (k : ℕ) → k < length g.trains → 0 < length (train g k)
  pub stands : (k i : ℕ) → i < length (train g k) → (get_or (train g k) i no_stand).block < g.count
  pub noticed : (k i : ℕ) → i < length (train g k) → g.occupied (get_or (train g k) i no_stand).block ≡ true
  pub nowhere : (b : ℕ) → g.count ≤ b → g.occupied b ≡ false
