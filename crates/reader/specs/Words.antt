-- A text cut into lines and words, and what a word says. Assumes nothing.
use Rattle.std.specs.Prelude.{ℕ, ◌+◌, ◌-◌, ◌*◌, Bool, cond, not, ◌&&◌, List, [], ◌∷◌, length, take, drop, Some, None, codes, Option, ◌==◌, nat_le, nat_lt}
use Rattle.std.specs.List.{prefix_len, onto_first, slice_split}
use Rattle.std.specs.Str.{bytes_eq}
use Rattle.network.specs.declared.track.Joint.{Joint}
use Rattle.network.specs.declared.track.Joint.TheVariants.{Outer, Joined}
use Rattle.reader.specs.declared.token.Token.{Token}
use Rattle.reader.specs.declared.token.Token.TheVariants.{Dash, Dotted, Word}

abbrev pub onto : ℕ → List (List ℕ) → List (List ℕ)
onto x ps = onto_first x ps

-- a text cut at each byte s: one piece more than there are such bytes, so that two in a row have an empty piece between them
abbrev pub pieces : ℕ → List ℕ → List (List ℕ)
pieces s xs = slice_split (λ x. x == s) xs

-- the bytes before the first s
abbrev pub apart : ℕ → ℕ → Bool
apart s b = not (b == s)

abbrev pub before : ℕ → List ℕ → ℕ
before s xs = prefix_len (apart s) xs

-- a text before its first s and behind it, where it has one
abbrev pub cut : ℕ → List ℕ → Option (List ℕ × List ℕ)
cut s xs = cond (nat_lt (before s xs) (length xs)) (Some (take (before s xs) xs, drop (before s xs + 1) xs)) None

-- a token with the bytes that it holds, and its line
pub data Shown : Type 0 where
  dash : ℕ → Shown
  dotted : List ℕ → List ℕ → ℕ → Shown
  word : List ℕ → ℕ → Shown

abbrev pub shown : Token → Shown
shown (Dash line) = dash line
shown (Dotted block end line) = dotted block.now end.now line
shown (Word text line) = word text.now line

-- `-`, a word with a point in it, or any other word
abbrev pub token_of : List ℕ → ℕ → Shown
token_of w n =
    cond (bytes_eq w (codes "-")) (dash n) (cond (nat_lt (before 46 w) (length w)) (dotted (take (before 46 w) w) (drop (before 46 w + 1) w) n) (word w n))

abbrev pub digit : ℕ → Option ℕ
digit b = cond (nat_le 48 b && nat_le b 57) (Some (b - 48)) None

abbrev pub two_digits : Option ℕ → Option ℕ → Option ℕ
two_digits None u = None
two_digits (Some t) None = None
two_digits (Some t) (Some u) = Some (10 * t + u)

-- one digit, or two of which the first is not 0
abbrev pub number : List ℕ → Option ℕ
number [] = None
number (d ∷ []) = digit d
number (t ∷ (u ∷ [])) = cond (t == 48) None (two_digits (digit t) (digit u))
number (t ∷ (u ∷ (v ∷ vs))) = None

abbrev pub joined : Option ℕ → Option ℕ → Option Joint
joined None f = None
joined (Some c) None = None
joined (Some c) (Some f) = Some (Joined c f)

abbrev pub joint_of : Shown → Option Joint
joint_of (dash n) = Some Outer
joint_of (dotted c f n) = joined (number c) (number f)
joint_of (word w n) = None

abbrev pub number_of : Shown → Option ℕ
number_of (dash n) = None
number_of (dotted c f n) = None
number_of (word w n) = number w
