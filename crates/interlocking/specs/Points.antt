-- How the points of a route lie, and how they are laid. Assumes nothing.
use Rattle.std.specs.Prelude.{◌≡◌, ℕ, ◌+◌, List, [], ◌∷◌, Some, None, Ok, Err, Option, Result}
use Rattle.network.specs.declared.track.Position.{Position}
use Rattle.network.specs.declared.track.Position.TheVariants.{Left, Right}
use Rattle.network.specs.declared.route.Step.{Step}
use Rattle.trackside.specs.declared.answers.Lamp.{Lamp}
use Rattle.trackside.specs.declared.answers.Moved.{Moved}
use Rattle.trackside.specs.declared.answers.Fault.{Fault}
use Rattle.trackside.specs.declared.answers.Stuck.{Stuck}
use Rattle.trackside.specs.declared.Look.{Ghosts}
use Rattle.trackside.specs.Ground.{Ground}
use Rattle.book.specs.declared.refusal.Refusal.{Refusal}
use Rattle.book.specs.declared.refusal.Refusal.TheVariants.{PointLiesWrong, PointStuck}
use Rattle.book.specs.Guards.{every}

abbrev pub wrong_if : Option Position → Position → Option Position
wrong_if None q = None
wrong_if (Some Left) Left = None
wrong_if (Some Left) Right = Some Left
wrong_if (Some Right) Left = Some Right
wrong_if (Some Right) Right = None

-- the position that a step needs, where its point lies otherwise
abbrev pub wrong_at : Ground → Step → Option Position
wrong_at g s = wrong_if s.needs (g.lies s.block)

abbrev pub right_if : Option Position → ℕ → Result Unit Refusal
right_if None b = Ok tt
right_if (Some p) b = Err (PointLiesWrong b)

abbrev pub lies_right : Ground → Step → Result Unit Refusal
lies_right g s = right_if (wrong_at g s) s.block

-- each point lies as its step needs, seen in the order of the route
abbrev pub all_lie_right : Ground → List Step → Result Unit Refusal
all_lie_right g ss = every (lies_right g) ss

-- what is told to a trackside, and what it answers
pub data Act : Type 0 where
  Throw : ℕ → Position → Result Unit Stuck → Act
  Light : ℕ → Lamp → Result Unit Stuck → Act
  Move : Result Moved Fault → Act

module _ {S : Type 0} (L : Ghosts S) where
  -- these acts, one after the other and no others, lead from the trackside s to t
  abbrev pub Led : S → List Act → S → Type 0
  Led s [] t = s ≡ t
  Led s (Throw b p o ∷ acts) t = (u : S) × L.throws s b p o u × Led u acts t
  Led s (Light b l o ∷ acts) t = (u : S) × L.lights s b l o u × Led u acts t
  Led s (Move m ∷ acts) t = (u : S) × L.moves s m u × Led u acts t

  pub record Chain (s : S) (acts : List Act) (t : S) : Type 0 where
    pub led : Led s acts t

  -- The points of these steps are looked at in turn, n were thrown before. One that lies right stays; one that lies wrong is
  -- thrown, and the next is looked at; one that is stuck ends it.
  pub data Lays : List Step → S → ℕ → List Act → Result ℕ Refusal → S → Type 0 where
    laid : {s : S} {n : ℕ} → Lays [] s n [] (Ok n) s
    lies : {x : Step} {xs : List Step} {s t : S} {n : ℕ} {acts : List Act} {a : Result ℕ Refusal} → wrong_at (L.as_ground s) x ≡ None → Lays xs s n acts a t → Lays (x ∷ xs) s n acts a t
    thrown : {x : Step} {xs : List Step} {s u t : S} {n : ℕ} {p : Position} {acts : List Act} {a : Result ℕ Refusal} → wrong_at (L.as_ground s) x ≡ Some p → L.throws s x.block p (Ok tt) u → Lays xs u (n + 1) acts a t → Lays (x ∷ xs) s n (Throw x.block p (Ok tt) ∷ acts) a t
    stuck : {x : Step} {xs : List Step} {s u : S} {n : ℕ} {p : Position} {e : Stuck} → wrong_at (L.as_ground s) x ≡ Some p → L.throws s x.block p (Err e) u → Lays (x ∷ xs) s n (Throw x.block p (Err e) ∷ []) (Err (PointStuck x.block)) u

  -- some acts lay these points
  pub record Laying (xs : List Step) (s : S) (n : ℕ) (a : Result ℕ Refusal) (t : S) : Type 0 where
    pub acts : List Act
    pub chain : Chain s acts t
    pub lays : Lays xs s n acts a t
