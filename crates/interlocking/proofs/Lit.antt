-- An open and a cancel that told their lamp did what they promise.
use Rattle.std.proofs.Common.{◌≡◌, ℕ, List, [], ◌∷◌, length, Ok, Result, refl, ap}
use Rattle.network.specs.declared.route.Step.{Step}
use Rattle.trackside.specs.declared.answers.Lamp.TheVariants.{Red, Green}
use Rattle.trackside.specs.declared.answers.Stuck.{Stuck}
use Rattle.trackside.specs.declared.Look.{Ghosts}
use Rattle.book.specs.declared.Book.{Book}
use Rattle.book.specs.declared.refusal.Refusal.{Refusal}
use Rattle.book.specs.Rules.{cancelled_book}
use Rattle.interlocking.specs.declared.Interlocking.{Interlocking}
use Rattle.interlocking.specs.Points.{Light, Chain}
use Rattle.interlocking.specs.Calls.{became, first_block, opened, open_guard, cancel_guard}
use Rattle.interlocking.specs.Promises.{Performed, Open, Cancel}

module _ {S : Type 0} {L : Ghosts S} {x : Interlocking S} {t : S} {r : ℕ} {ss : List Step} {told : Result Unit Stuck} where
  pub opens : {a : Result ℕ Refusal} → open_guard (L.as_ground x.trackside) x r ≡ Ok ss → Chain L x.trackside (Light (first_block ss) Green told ∷ []) t → a ≡ opened (first_block ss) told → Performed L x (Open r a) (became x t x.book)
  opens may lit answer =
      record {
        acts = Light (first_block ss) Green told ∷ [];
        chain = lit;
        does = rw may (record { told = told; light = refl; answer = answer; rest = refl });
      }

module _ {S : Type 0} {L : Ghosts S} {x : Interlocking S} {t : S} {r : ℕ} {ss : List Step} {b : ℕ} {told : Result Unit Stuck} {k : Book} where
  pub cancels : cancel_guard x r ≡ Ok ss → b ≡ first_block ss → Chain L x.trackside (Light b Red told ∷ []) t → k ≡ cancelled_book x.book r ss → Performed L x (Cancel r (Ok (length ss))) (became x t k)
  cancels may first lit gone =
      record {
        acts = Light b Red told ∷ [];
        chain = lit;
        does = rw may (record { told = told; light = ap (λ c. Light c Red told ∷ []) first; answer = refl; rest = ap (became x t) gone });
      }
