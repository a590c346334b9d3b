-- The text of a dispatcher's commands. Assumes nothing.
use Rattle.std.specs.Prelude.{◌≡◌, ℕ, ◌+◌, ◌<◌, cond, List, ◌∷◌, ◌++◌, length, take, drop, Some, None, codes, decimal, Option, nat_lt}
use Rattle.std.specs.Str.{bytes_eq}
use Rattle.reader.specs.Words.{before, number}
use Rattle.yard.specs.declared.wish.Wish.{Wish as TrainWish}
use Rattle.yard.specs.declared.wish.Wish.TheVariants.{Enter, Forward, Clear}
use Rattle.commands.specs.declared.command.Command.{Command}
use Rattle.commands.specs.declared.command.Command.TheVariants.{Reserve, Lay, Form, Open, Cancel, Free, Wish, Watch}

-- the wish of a word with number n
abbrev pub wished : List ℕ → ℕ → Option TrainWish
wished w n =
    cond (bytes_eq w (codes "enter")) (Some (Enter n)) (cond (bytes_eq w (codes "forward")) (Some (Forward n)) (cond (bytes_eq w (codes "clear")) (Some (Clear n)) None))

-- a wish is a command too
abbrev pub wish_command : Option TrainWish → Option Command
wish_command None = None
wish_command (Some w) = Some (Wish w)

-- the command of a word with number n
abbrev pub asked : List ℕ → ℕ → Option Command
asked w n =
    cond (bytes_eq w (codes "reserve")) (Some (Reserve n)) (cond (bytes_eq w (codes "lay")) (Some (Lay n)) (cond (bytes_eq w (codes "form")) (Some (Form n)) (cond (bytes_eq w (codes "open")) (Some (Open n)) (cond (bytes_eq w (codes "cancel")) (Some (Cancel n)) (cond (bytes_eq w (codes "free")) (Some (Free n)) (wish_command (wished w n)))))))

-- the same, where there is a number
abbrev pub asked_with : List ℕ → Option ℕ → Option Command
asked_with w None = None
asked_with w (Some n) = asked w n

-- the command that a line is: `watch`, or the word before its first space with the number behind that space
abbrev pub command_of : List ℕ → Option Command
command_of l =
    cond (bytes_eq l (codes "watch")) (Some Watch) (cond (nat_lt (before 32 l) (length l)) (asked_with (take (before 32 l) l) (number (drop (before 32 l + 1) l))) None)

-- a word, a space and a number in decimal digits
abbrev pub numbered : List ℕ → ℕ → List ℕ
numbered w n = w ++ (32 ∷ decimal n)

-- the text of a command
abbrev pub written : Command → List ℕ
written (Reserve r) = numbered (codes "reserve") r
written (Lay r) = numbered (codes "lay") r
written (Form r) = numbered (codes "form") r
written (Open r) = numbered (codes "open") r
written (Cancel r) = numbered (codes "cancel") r
written (Free r) = numbered (codes "free") r
written (Wish (Enter b)) = numbered (codes "enter") b
written (Wish (Forward t)) = numbered (codes "forward") t
written (Wish (Clear t)) = numbered (codes "clear") t
written Watch = codes "watch"

-- the number of a command; `watch` has none
abbrev pub number_in : Command → ℕ
number_in (Reserve r) = r
number_in (Lay r) = r
number_in (Form r) = r
number_in (Open r) = r
number_in (Cancel r) = r
number_in (Free r) = r
number_in (Wish (Enter b)) = b
number_in (Wish (Forward t)) = t
number_in (Wish (Clear t)) = t
number_in Watch = 0

-- a line is the text of a command, whose number has at most two digits
pub record Says (line : List ℕ) (c : Command) : Type 0 where
  pub text : line ≡ written c
  pub small : number_in c < 100

-- what is read of a line is the command whose text it is, and where it is the text of a command, that is read
pub record Reads (line : List ℕ) (r : Option Command) : Type 0 where
  pub right : (c : Command) → r ≡ Some c → Says line c
  pub only : (c : Command) → Says line c → r ≡ Some c
