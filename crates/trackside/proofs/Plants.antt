-- What is known of a plant. Assumes nothing.
use Rattle.std.proofs.Common.{◌≡◌, ℕ, ◌<◌, ◌≤◌, length, Some, None, Option, Ok, refl, ap, inl, inr}
use Rattle.std.specs.Option.{ok_or, option_map}
use Rattle.std.proofs.lemmas.Option.{slice_get_past}
use Rattle.std.proofs.lemmas.Bool.{cases_lt}
use Rattle.network.specs.declared.track.Kind.{Kind}
use Rattle.network.specs.declared.track.Kind.TheVariants.{Plain, Point, Crossing}
use Rattle.network.specs.declared.track.Joint.{Joint}
use Rattle.network.specs.Track.{kind_of}
use Rattle.network.proofs.BlockRules.{clash}
use Rattle.network.proofs.Limits.{few_blocks as network_few}
use Rattle.trackside.specs.declared.plant.Plant.{Plant}
use Rattle.trackside.specs.Ground.{lamp_end_of}
use Rattle.trackside.specs.Plants.{Stored, stored, kind_at, lamp_at, joint_at}

pub few_blocks : (p : Plant) → length (stored p).blocks ≤ 64
few_blocks p = network_few p.network

-- a block with a kind is there, and so is one with a lamp
pub kind_there : (m : Stored) (b : ℕ) (k : Kind) → kind_at m b ≡ Some k → b < length m.blocks
kind_there m b k e = elim (cases_lt b (length m.blocks)) [ inl l ↦ l | inr l ↦ absurd (clash (ap (option_map kind_of) (slice_get_past m.blocks b l)) e) ]

lamp_kind : (k : Option Kind) (a b : Joint) (e : ℕ) → lamp_end_of k a b ≡ Some e → k ≡ Some Plain
lamp_kind None a b e h = absurd (clash refl h)
lamp_kind (Some Plain) a b e h = refl
lamp_kind (Some Point) a b e h = absurd (clash refl h)
lamp_kind (Some Crossing) a b e h = absurd (clash refl h)

pub lamp_there : (m : Stored) (b e : ℕ) → lamp_at m b ≡ Some e → b < length m.blocks
lamp_there m b e h = kind_there m b Plain (lamp_kind (kind_at m b) (joint_at m b 0) (joint_at m b 1) e h)

-- what `ok_or` makes a success of is there
pub some_if : {A E : Type 0} (o : Option A) (e : E) (x : A) → ok_or o e ≡ Ok x → o ≡ Some x
some_if None e x h = cc
some_if (Some y) e x h = cc
