-- A trackside that is nothing but its ground, and on which any step may happen that the laws allow. Assumes nothing.
use Rattle.std.proofs.Common.{inl}
use Rattle.trackside.specs.declared.Look.{Ghosts}
use Rattle.trackside.specs.Ground.{Ground, WellMade}
use Rattle.trackside.specs.Laws.{Thrown, Lit, Moves, Live}

-- a ground of at most 64 blocks, occupied exactly where trains stand
pub record Yard : Type 0 where
  pub as_ground : Ground
  pub made : WellMade 64 as_ground
  pub live : Live as_ground

-- a throw, a light or a move leads from one ground to each that its law allows
abbrev pub any_yard : Ghosts Yard
any_yard = record {
  most = 64;
  as_ground = λ s. s.as_ground;
  throws = λ s b p a t. Thrown s.as_ground b p a t.as_ground;
  lights = λ s b l a t. Lit s.as_ground b l a t.as_ground;
  moves = λ s m t. Moves s.as_ground m t.as_ground;
  lawful = record {
    made = λ s. s.made;
    live = λ s. inl s.live;
    throwing = λ s t b p a h. h;
    lighting = λ s t b l a h. h;
    moving = λ s t m h. h;
  };
}
