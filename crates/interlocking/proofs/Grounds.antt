-- A ground in service: where it starts, what any move does to it, and what is seen of its trains.
use Rattle.std.proofs.Common.{◌≡◌, ℕ, ◌<◌, false, ◌⊎◌, List, [], ◌∷◌, length, None, Ok, Err, Result, sym, refl, ap, subst, ap₂, inl, inr, arith}
use Rattle.std.proofs.lemmas.Bool.{cases_lt, cases_Bool}
use Rattle.network.specs.Judge.{Plan}
use Rattle.trackside.specs.declared.answers.Fault.{Fault}
use Rattle.trackside.specs.declared.answers.Moved.{Moved}
use Rattle.trackside.specs.declared.answers.Moved.TheVariants.{Quiet, Enter, Forward, Clear}
use Rattle.trackside.specs.Ground.{Ground, lamp_end_of, WellMade}
use Rattle.trackside.specs.Laws.{Moves}
use Rattle.book.specs.declared.state.RouteState.TheVariants.{Free}
use Rattle.interlocking.specs.Ledger.{Ledger}
use Rattle.interlocking.proofs.Changes.Act.{enter, forward, clear, leave}
use Rattle.interlocking.proofs.Changes.{Put, Act, Start}
use Rattle.interlocking.proofs.Argument.{none_some}
use Rattle.interlocking.proofs.Routes.{layout, BuiltAs}
use Rattle.interlocking.proofs.LawsToActs.{world, no_train, entered_act, forwarded_act, cleared_act}

-- what the ledger makes of a move: a block that is cleared is held for no route, and nothing else changes
abbrev pub Noted : Result Moved Fault → Ledger → Ledger → Type 0
Noted (Ok Quiet) l l' = l' ≡ l
Noted (Err f) l l' = l' ≡ l
Noted (Ok (Enter k b)) l l' = l' ≡ l
Noted (Ok (Forward k b)) l l' = l' ≡ l
Noted (Ok (Clear k b)) l l' = Put b None l.holder l'.holder × ((r : ℕ) → l'.state r ≡ l.state r)

-- ground and ledger after a move are those before it, or an act leads to them
pub moved_act : (p : Plan) (most : ℕ) (g h : Ground) (l l' : Ledger) (m : Result Moved Fault) → WellMade most g → BuiltAs p g → Moves g m h → Noted m l l' → (world h l' ≡ world g l) ⊎ Act (layout p) (world g l) (world h l')
moved_act p most g h l l' (Ok Quiet) made built t n = inl (ap₂ world t n)
moved_act p most g h l l' (Err f) made built t n = inl (ap₂ world t n)
moved_act p most g h l l' (Ok (Enter k b)) made built t n =
    inr (subst (λ x. Act (layout p) (world g l) (world h x)) (sym n) (enter b t.end (entered_act p g h l k b built t)))
moved_act p most g h l l' (Ok (Forward k b)) made built t n =
    inr (subst (λ x. Act (layout p) (world g l) (world h x)) (sym n) (forward k t.is_front.0 t.end _ (forwarded_act p g h l most k b made built t)))
moved_act p most g h l l' (Ok (Clear k b)) made built t n = elim (cleared_act p g h l l' k b built t n.0 n.1) [
  | inl a ↦ inr (clear k a)
  | inr both ↦ inr (leave k both.0 both.1)
]

-- a list without a first element is empty
none_first : {A : Type 0} (xs : List A) → (0 < length xs → ⊥) → xs ≡ []
none_first [] n = refl
none_first (x ∷ xs) n = absurd (n (omega arith))

-- a ground with no block occupied and no lamp green, and a ledger with nothing reserved, is where the argument starts
pub start_of : (most : ℕ) (g : Ground) (l : Ledger) → WellMade most g → ((b : ℕ) → b < g.count → g.occupied b ≡ false) → ((b : ℕ) → b < g.count → g.green b ≡ false) → ((b : ℕ) → l.holder b ≡ None) → ((r : ℕ) → l.state r ≡ Free) → Start (world g l)
start_of most g l made empty dark unheld idle = record {
  trains = none_first g.trains no_first;
  dark = all_dark;
  unheld = unheld;
  idle = idle;
}
  where
    no_first : 0 < length g.trains → ⊥
    no_first n =
        let s = made.some_stand 0 n in
        no_train most g l made _ (empty _ (made.stands 0 0 s)) (record { by = 0; at = 0; within = s; is = refl })

    all_dark : (b : ℕ) → g.green b ≡ false
    all_dark b = elim (cases_lt b g.count) [
      | inl n ↦ dark b n
      | inr n ↦ elim (cases_Bool (g.green b)) [ inl e ↦ absurd (none_some (ap (λ k. lamp_end_of k (g.joint b 0) (g.joint b 1)) (made.unknown b n)) (made.lamps b e).1) | inr e ↦ e ]
    ]
