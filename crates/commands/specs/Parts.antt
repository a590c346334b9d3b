-- An input in its two parts: a sheet, and behind the first line that is just `.`, commands. Assumes nothing.
use Rattle.std.specs.Prelude.{◌≡◌, ℕ, ◌+◌, Bool, true, cond, ◌&&◌, ◌⊎◌, List, [], ◌∷◌, ◌++◌, take, drop, codes, ◌==◌, ◌≢◌}
use Rattle.std.specs.List.{flat_map, AllByRecursion}
use Rattle.std.specs.Str.{bytes_eq}
use Rattle.reader.specs.Words.{before}
use Rattle.reader.specs.Text.{ended}

-- the line that ends a sheet is just `.`
abbrev pub ends_sheet : List ℕ → Bool
ends_sheet l = bytes_eq l (codes ".")

-- whether the first line of a text is that line
abbrev pub is_mark : List ℕ → Bool
is_mark t = ends_sheet (take (before 10 t) t)

-- how many bytes stand before the first line that is `.`: all of them where there is none; b says that the text begins with a new line
abbrev pub before_mark : Bool → List ℕ → ℕ
before_mark b [] = 0
before_mark b (x ∷ xs) = cond (b && is_mark (x ∷ xs)) 0 (1 + before_mark (x == 10) xs)

-- what stands before the mark
abbrev pub sheet_of : List ℕ → List ℕ
sheet_of t = take (before_mark true t) t

-- what stands behind the mark and its line end
abbrev pub commands_of : List ℕ → List ℕ
commands_of t = drop (before_mark true t + 2) t

-- a line that is not `.`; no line end is in it
pub record SheetLine (l : List ℕ) : Type 0 where
  pub one : AllByRecursion (λ b. b ≢ 10) l
  pub other : l ≡ codes "." → ⊥

-- whole lines, none of which is `.`
pub record SheetLines (s : List ℕ) : Type 0 where
  pub lines : List (List ℕ)
  pub text : s ≡ flat_map ended lines
  pub each : AllByRecursion SheetLine lines

-- the input is the lines of the sheet, a line `.` and the commands; that line may lack its line end where nothing follows it
pub record Cut (input sheet commands : List ℕ) : Type 0 where
  pub lines : SheetLines sheet
  pub end : List ℕ
  pub ends : (end ≡ 10 ∷ []) ⊎ ((end ≡ []) × (commands ≡ []))
  pub text : input ≡ sheet ++ (codes "." ++ (end ++ commands))

-- no line of the input is `.`, so that all of it is the sheet
pub record Whole (input sheet commands : List ℕ) : Type 0 where
  pub front : List ℕ
  pub last : List ℕ
  pub text : input ≡ front ++ last
  pub lines : SheetLines front
  pub last_line : SheetLine last
  pub all : sheet ≡ input
  pub none : commands ≡ []

-- the sheet and the commands are the two parts of the input t
abbrev pub Parted : List ℕ → List ℕ → List ℕ → Type 0
Parted t s c = Cut t s c ⊎ Whole t s c
