-- The page of a yard. Assumes nothing.
use Rattle.std.specs.Prelude.{ℕ, ◌+◌, Bool, true, false, cond, List, [], ◌∷◌, ◌++◌, map, length, drop, Some, None, Ok, Err, fold, Option, Result, bit_xor, nat_le}
use Rattle.std.specs.List.{range_with_len}
use Rattle.network.specs.declared.track.Kind.{Kind}
use Rattle.network.specs.declared.track.Kind.TheVariants.{Plain, Point, Crossing}
use Rattle.network.specs.declared.track.Position.{Position}
use Rattle.network.specs.declared.track.Position.TheVariants.{Left, Right}
use Rattle.trackside.specs.declared.page.PageRefusal.{PageRefusal}
use Rattle.trackside.specs.declared.page.PageRefusal.TheVariants.{TooShort}
use Rattle.trackside.specs.Ground.{Ground}

abbrev pub number_of : PageRefusal → ℕ
number_of TooShort = 48

abbrev pub place_of : PageRefusal → ℕ
place_of TooShort = 0

-- `L` and `R`
abbrev pub point_mark : Position → ℕ
point_mark Left = 76
point_mark Right = 82

-- `G` and `-`
abbrev pub lamp_mark : Bool → ℕ
lamp_mark true = 71
lamp_mark false = 45

abbrev pub kind_mark : Option Kind → Position → Bool → ℕ
kind_mark None p g = lamp_mark g
kind_mark (Some Plain) p g = lamp_mark g
kind_mark (Some Point) p g = point_mark p
kind_mark (Some Crossing) p g = lamp_mark g

-- the byte of block b: `O` occupied, else how its point lies, else what its lamp shows
abbrev pub page_mark : Ground → ℕ → ℕ
page_mark g b = cond (g.occupied b) 79 (kind_mark (g.kind b) (g.lies b) (g.green b))

-- the bytes of the first n blocks
abbrev pub marks : Ground → ℕ → List ℕ
marks g n = map (page_mark g) (range_with_len 0 n)

-- the exclusive-or of bytes
abbrev pub check_of : List ℕ → ℕ
check_of bs = fold bit_xor 0 bs

abbrev pub page_of : Ground → List ℕ
page_of g = marks g g.count ++ check_of (marks g g.count) ∷ []

-- a buffer in which the page is drawn, or which is too short for it
abbrev pub drawn_page : Ground → List ℕ → Result ℕ PageRefusal × List ℕ
drawn_page g buffer =
    cond (nat_le (length buffer) g.count) (Err TooShort, buffer) (Ok (g.count + 1), page_of g ++ drop (g.count + 1) buffer)
