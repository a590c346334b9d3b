-- The steps of a yard. Assumes nothing.
use Rattle.std.specs.Prelude.{◌≡◌, ℕ, List, Result}
use Rattle.network.specs.declared.track.Position.{Position}
use Rattle.trackside.specs.declared.answers.Lamp.{Lamp}
use Rattle.trackside.specs.declared.answers.Moved.{Moved}
use Rattle.trackside.specs.declared.answers.Stuck.{Stuck}
use Rattle.trackside.specs.declared.answers.Fault.{Fault}
use Rattle.line.specs.declared.refusal.Full.{Full}
use Rattle.line.specs.Lines.{slots_after_put, first_after_take}
use Rattle.yard.specs.declared.Yard.{Yard}
use Rattle.yard.specs.declared.wish.Wish.{Wish}
use Rattle.yard.specs.Fleets.{Lent as FleetLent}
use Rattle.yard.specs.Views.{View, view, wished, thrown_by, lit_by, moved_by}

-- what was lent stays in use where it lies
pub record Lent (s t : Yard) : Type 0 where
  pub plant : t.plant.ghost_name ≡ s.plant.ghost_name
  pub records : FleetLent s.fleet t.fleet
  pub slots : t.wishes.slots.ghost_name ≡ s.wishes.slots.ghost_name

-- The yard s answers a and becomes t, which is `done`, in the memory that was lent; the slots of its wishes then hold `left`, and
-- those who wait begin at `next`.
pub record Becomes {A : Type 0} (s : Yard) (a : A) (t : Yard) (done : A × View) (left : List Wish) (next : ℕ) : Type 0 where
  pub is : (a, view t) ≡ done
  pub lent : Lent s t
  pub slots : t.wishes.slots.now ≡ left
  pub first : t.wishes.first ≡ next

abbrev pub Throws : Yard → ℕ → Position → Result Unit Stuck → Yard → Type 0
Throws s b p a t = Becomes s a t (thrown_by (view s) b p) s.wishes.slots.now s.wishes.first

abbrev pub Lights : Yard → ℕ → Lamp → Result Unit Stuck → Yard → Type 0
Lights s b l a t = Becomes s a t (lit_by (view s) b l) s.wishes.slots.now s.wishes.first

abbrev pub Steps : Yard → Result Moved Fault → Yard → Type 0
Steps s m t = Becomes s m t (moved_by (view s)) s.wishes.slots.now (first_after_take s.wishes)

-- a wish comes to the line
abbrev pub Joins : Yard → Wish → Result Unit Full → Yard → Type 0
Joins s w a t = Becomes s a t (wished (view s) w) (slots_after_put s.wishes w) s.wishes.first

-- what was lent stays in use where it lies, and the line of wishes stays as it is
pub record MovesOnly (s t : Yard) : Type 0 where
  pub lent : Lent s t
  pub line : t.wishes ≡ s.wishes
