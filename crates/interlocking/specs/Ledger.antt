-- The ledger: reserved, formed and free, as the calls and their answers alone tell it. The book is not asked. Assumes nothing.
use Rattle.std.specs.Prelude.{ℕ, Bool, false, cond, ◌||◌, List, [], ◌∷◌, Some, None, Ok, Err, Option, ◌==◌}
use Rattle.network.specs.declared.route.Step.{Step}
use Rattle.network.specs.Judge.{Plan}
use Rattle.network.specs.Rules.{steps_at}
use Rattle.book.specs.declared.state.RouteState.{RouteState}
use Rattle.book.specs.declared.state.RouteState.TheVariants.{Free as FreeState, Reserved, Formed}
use Rattle.trackside.specs.declared.answers.Moved.TheVariants.{Quiet, Enter, Forward, Clear}
use Rattle.interlocking.specs.Promises.{Event, Reserve, Lay, Form, Open, Watch, Cancel, Free, Take, Give, Serve}

-- which route each block is reserved for, and where each route stands
pub record Ledger : Type 0 where
  pub holder : ℕ → Option ℕ
  pub state : ℕ → RouteState

-- all is free at making
abbrev pub all_free : Ledger
all_free = record { holder = λ b. None; state = λ r. FreeState }

-- v at x, and all else as it was
abbrev pub changed : {A : Type 0} → (ℕ → A) → ℕ → A → ℕ → A
changed f x v y = cond (y == x) v (f y)

-- block b is one of those that these steps run through
abbrev pub runs_through : List Step → ℕ → Bool
runs_through [] b = false
runs_through (s ∷ ss) b = s.block == b || runs_through ss b

-- v at each block of these steps, and all else as it was
abbrev pub changed_along : (ℕ → Option ℕ) → List Step → Option ℕ → ℕ → Option ℕ
changed_along f ss v b = cond (runs_through ss b) v (f b)

abbrev pub with_reserved : Plan → ℕ → Ledger → Ledger
with_reserved p r l = record { holder = changed_along l.holder (steps_at p.routes r) (Some r); state = changed l.state r Reserved }

abbrev pub with_formed : ℕ → Ledger → Ledger
with_formed r l = record { holder = l.holder; state = changed l.state r Formed }

abbrev pub with_cancelled : Plan → ℕ → Ledger → Ledger
with_cancelled p r l = record { holder = changed_along l.holder (steps_at p.routes r) None; state = changed l.state r FreeState }

abbrev pub with_freed : ℕ → Ledger → Ledger
with_freed r l = record { holder = l.holder; state = changed l.state r FreeState }

abbrev pub with_block_freed : ℕ → Ledger → Ledger
with_block_freed b l = record { holder = changed l.holder b None; state = l.state }

-- what one more call and its answer make of the ledger: a refusal nothing, and a serve what its reserve would
abbrev pub after : Plan → Event → Ledger → Ledger
after p (Reserve r (Ok n)) l = with_reserved p r l
after p (Reserve r (Err e)) l = l
after p (Lay r a) l = l
after p (Form r (Ok n)) l = with_formed r l
after p (Form r (Err e)) l = l
after p (Open r a) l = l
after p (Watch (Ok Quiet)) l = l
after p (Watch (Ok (Enter t b))) l = l
after p (Watch (Ok (Forward t b))) l = l
after p (Watch (Ok (Clear t b))) l = with_block_freed b l
after p (Watch (Err e)) l = l
after p (Cancel r (Ok n)) l = with_cancelled p r l
after p (Cancel r (Err e)) l = l
after p (Free r (Ok n)) l = with_freed r l
after p (Free r (Err e)) l = l
after p (Take b a) l = l
after p (Give s a) l = l
after p (Serve [] a) l = l
after p (Serve (q ∷ qs) (Ok n)) l = with_reserved p q.route l
after p (Serve (q ∷ qs) (Err e)) l = l

-- the ledger after these calls, the newest first
abbrev pub ledger : Plan → List Event → Ledger
ledger p [] = all_free
ledger p (e ∷ es) = after p e (ledger p es)
