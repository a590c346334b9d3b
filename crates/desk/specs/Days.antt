-- A day: lines of commands, each obeyed in turn and answered. Assumes nothing.
use Rattle.std.specs.Prelude.{◌≡◌, ℕ, List, [], ◌∷◌, ◌++◌, Some, None, Option, Result}
use Rattle.std.specs.List.{flat_map as written}
use Rattle.line.specs.declared.refusal.Full.{Full}
use Rattle.trackside.specs.declared.Look.{Ghosts}
use Rattle.yard.specs.declared.wish.Wish.{Wish}
use Rattle.commands.specs.declared.answer.Answer.{Answer}
use Rattle.commands.specs.declared.command.Command.{Command}
use Rattle.commands.specs.declared.command.Command.TheVariants as command
use Rattle.commands.specs.Answers.{answer_text}
use Rattle.commands.specs.Commands.{command_of}
use Rattle.interlocking.specs.declared.Interlocking.{Interlocking}
use Rattle.interlocking.specs.Calls.{reserve_at, form_at, free_at}
use Rattle.interlocking.specs.History.{History}
use Rattle.interlocking.specs.Promises.{Event, Performed, Lay, Open, Watch, Cancel}
use Rattle.interlocking.specs.Wishes.{WishJoins}
use Rattle.desk.specs.Answers.{told, seen, joined, no_command}

-- a call did this, and what it answered is said so
pub record Says {R : Type 0} (say : R → Answer) (Did : R → Type 0) (a : Answer) : Type 0 where
  pub answer : R
  pub did : Did answer
  pub said : a ≡ say answer

module _ {S : Type 0} (L : Ghosts S) (joins : S → Wish → Result Unit Full → S → Type 0) where
  -- each command is the call of its name
  abbrev pub Obeys : Interlocking S → Command → Answer → Interlocking S → Type 0
  Obeys x (command.Reserve r) a y = Says told (λ o. (o, y) ≡ reserve_at x r) a
  Obeys x (command.Lay r) a y = Says told (λ o. Performed L x (Lay r o) y) a
  Obeys x (command.Form r) a y = Says told (λ o. (o, y) ≡ form_at (L.as_ground x.trackside) x r) a
  Obeys x (command.Open r) a y = Says told (λ o. Performed L x (Open r o) y) a
  Obeys x (command.Cancel r) a y = Says told (λ o. Performed L x (Cancel r o) y) a
  Obeys x (command.Free r) a y = Says told (λ o. (o, y) ≡ free_at x r) a
  Obeys x (command.Wish w) a y = Says joined (λ o. WishJoins L joins x w o y) a
  Obeys x command.Watch a y = Says seen (λ o. Performed L x (Watch o) y) a

  -- a line that is no command changes nothing
  pub record PassedOver (x : Interlocking S) (a : Answer) (y : Interlocking S) : Type 0 where
    pub answer : a ≡ no_command
    pub same : y ≡ x

  abbrev pub AnswersIf : Option Command → Interlocking S → Answer → Interlocking S → Type 0
  AnswersIf None x a y = PassedOver x a y
  AnswersIf (Some c) x a y = Obeys x c a y

  -- from the interlocking x these lines are answered so, in turn, and lead to y
  pub data Day : Interlocking S → List (List ℕ) → List Answer → Interlocking S → Type 0 where
    over : {x : Interlocking S} → Day x [] [] x
    next : {x y z : Interlocking S} {line : List ℕ} {lines : List (List ℕ)} {a : Answer} {more : List Answer} → AnswersIf (command_of line) x a y → Day y lines more z → Day x (line ∷ lines) (a ∷ more) z

  -- these lines were answered, and the text has grown by the answers, a line for each
  pub record Played (x : Interlocking S) (lines : List (List ℕ)) (before later : List ℕ) (y : Interlocking S) : Type 0 where
    pub answers : List Answer
    pub day : Day x lines answers y
    pub text : later ≡ before ++ written answer_text answers

  -- some calls have led from x to y
  pub record Worked (x y : Interlocking S) : Type 0 where
    pub events : List Event
    pub history : History L x events y
