-- The text of a drawing, and what makes a text a sheet. Assumes nothing.
use Rattle.std.specs.Prelude.{◌≡◌, ℕ, ◌+◌, ◌/◌, ◌%◌, ◌<◌, ◌≤◌, cond, ◌⊎◌, List, [], ◌∷◌, ◌++◌, map, length, Ok, Err, codes, Result, ◌≢◌, nat_lt, slice_index, slice_index_or}
use Rattle.std.specs.List.{flat_map}
use Rattle.network.specs.declared.track.Joint.{Joint}
use Rattle.network.specs.declared.track.Joint.TheVariants.{Outer, Joined}
use Rattle.network.specs.declared.track.Block.{Block}
use Rattle.network.specs.declared.track.Block.TheVariants.{Plain, Point, Crossing}
use Rattle.network.specs.declared.rules.BlockRule.{BlockRule}
use Rattle.network.specs.declared.rules.RouteRule.{RouteRule}
use Rattle.network.specs.Drawing.{Declared}
use Rattle.network.specs.Judge.{Plan}
use Rattle.network.specs.Rules.{Lawful, BreaksBlock, BreaksRoute, BordersApart}
use Rattle.reader.specs.declared.refusal.Refusal.{Refusal}
use Rattle.reader.specs.declared.refusal.Refusal.TheVariants.{TooLong, Form, Limit, Empty, Block as BlockRefused, Route as RouteRefused}
use Rattle.reader.specs.Reads.{Declaration, block, route, read}

-- a number in digits, without a leading zero
abbrev pub digits : ℕ → List ℕ
digits n = cond (nat_lt n 10) ((48 + n) ∷ []) ((48 + n / 10) ∷ (48 + n % 10) ∷ [])

abbrev pub end_text : Joint → List ℕ
end_text Outer = codes "-"
end_text (Joined c f) = digits c ++ (codes "." ++ digits f)

-- words, each with a space before it
abbrev pub spaced : List (List ℕ) → List ℕ
spaced ws = flat_map (λ w. 32 ∷ w) ws

abbrev pub block_text : Block → List ℕ
block_text (Plain a b) = codes "plain" ++ spaced (map end_text (a ∷ b ∷ []))
block_text (Point a b c) = codes "point" ++ spaced (map end_text (a ∷ b ∷ c ∷ []))
block_text (Crossing a b c d) = codes "crossing" ++ spaced (map end_text (a ∷ b ∷ c ∷ d ∷ []))

abbrev pub route_text : List ℕ → List ℕ
route_text r = codes "route" ++ spaced (map digits r)

abbrev pub text_of : Declaration → List ℕ
text_of (block x) = block_text x
text_of (route r) = route_text r

-- a line of text with its line end
abbrev pub ended : List ℕ → List ℕ
ended l = l ++ 10 ∷ []

-- the text of a drawing: a line for each block, then a line for each route
abbrev pub written : Declared → List ℕ
written d = flat_map (λ x. ended (block_text x)) d.blocks ++ flat_map (λ r. ended (route_text r)) d.routes

abbrev pub lines : Declared → ℕ
lines d = length d.blocks + length d.routes

-- numbers have at most two digits
abbrev pub JointSized : Joint → Type 0
JointSized Outer = Unit {0}
JointSized (Joined c f) = (c < 100) × (f < 100)

abbrev pub BlockSized : Block → Type 0
BlockSized (Plain a b) = JointSized a × JointSized b
BlockSized (Point a b c) = JointSized a × JointSized b × JointSized c
BlockSized (Crossing a b c d) = JointSized a × JointSized b × JointSized c × JointSized d

-- a route has at least one number
pub record RouteSized (r : List ℕ) : Type 0 where
  pub some : 1 ≤ length r
  pub small : (i : ℕ) → i < length r → slice_index r i < 100

-- what can be written on a line, whatever the limits
abbrev pub Sized : Declaration → Type 0
Sized (block x) = BlockSized x
Sized (route r) = RouteSized r

abbrev pub no_block : Block
no_block = Plain Outer Outer

-- a drawing that can be written, within the limits: 64 blocks, 32 routes, 24 blocks in a route
pub record Within (d : Declared) : Type 0 where
  pub few_blocks : length d.blocks ≤ 64
  pub few_routes : length d.routes ≤ 32
  pub short : (r : ℕ) → r < length d.routes → length (slice_index_or d.routes r []) ≤ 24
  pub blocks : (b : ℕ) → b < length d.blocks → BlockSized (slice_index_or d.blocks b no_block)
  pub routes : (r : ℕ) → r < length d.routes → RouteSized (slice_index_or d.routes r [])

-- block lines come first
abbrev pub MayFollow : Declared → Declaration → Type 0
MayFollow d (block x) = d.routes ≡ []
MayFollow d (route r) = Unit {0}

-- one declaration more would be over a limit
abbrev pub Over : Declared → Declaration → Type 0
Over d (block x) = 64 ≤ length d.blocks
Over d (route r) = (32 ≤ length d.routes) ⊎ (24 < length r)

-- a text is accepted as the sheet p: it is the text of a drawing within the limits, with a block and a route, that meets all rules
pub record Accepted (t : List ℕ) (p : Plan) : Type 0 where
  pub drawing : Declared
  pub text : t ≡ written drawing
  pub short : length t ≤ 8192
  pub within : Within drawing
  pub some_block : 0 < length drawing.blocks
  pub some_route : 0 < length drawing.routes
  pub same_blocks : p.blocks ≡ drawing.blocks
  pub lawful : Lawful drawing.blocks drawing.routes p.routes

-- a text that begins with the lines of a drawing within the limits, and goes on
pub record Begins (t : List ℕ) (n : ℕ) : Type 0 where
  pub short : length t ≤ 8192
  pub drawing : Declared
  pub within : Within drawing
  pub rest : List ℕ
  pub text : t ≡ written drawing ++ rest
  pub line : n ≡ lines drawing + 1

-- line n is there, and is not the text of a declaration that may stand there
pub record WrongForm (t : List ℕ) (n : ℕ) : Type 0 where
  pub begins : Begins t n
  pub there : 0 < length begins.rest
  pub none : (x : Declaration) (after : List ℕ) → Sized x → MayFollow begins.drawing x → begins.rest ≢ ended (text_of x) ++ after

-- line n is the text of a declaration that may stand there, and is over a limit
pub record OverLimit (t : List ℕ) (n : ℕ) : Type 0 where
  pub begins : Begins t n
  pub more : Declaration
  pub after : List ℕ
  pub sized : Sized more
  pub follows : MayFollow begins.drawing more
  pub text : begins.rest ≡ ended (text_of more) ++ after
  pub over : Over begins.drawing more

-- a text of a drawing within the limits
pub record Draws (t : List ℕ) : Type 0 where
  pub short : length t ≤ 8192
  pub drawing : Declared
  pub within : Within drawing
  pub text : t ≡ written drawing

-- no block line or no route line
pub record NothingDrawn (t : List ℕ) : Type 0 where
  pub draws : Draws t
  pub none : (draws.drawing.blocks ≡ []) ⊎ (draws.drawing.routes ≡ [])

-- a drawing with blocks and routes, of which the block on line n is the first to break a rule
pub record BlockBreaks (t : List ℕ) (ρ : BlockRule) (n : ℕ) : Type 0 where
  pub draws : Draws t
  pub some_route : 0 < length draws.drawing.routes
  pub number : ℕ
  pub breaks : BreaksBlock draws.drawing.blocks ρ number
  pub line : n ≡ number + 1

-- the same of the route on line n
pub record RouteBreaks (t : List ℕ) (ρ : RouteRule) (n : ℕ) : Type 0 where
  pub draws : Draws t
  pub some_block : 0 < length draws.drawing.blocks
  pub number : ℕ
  pub breaks : BreaksRoute draws.drawing.blocks draws.drawing.routes ρ number
  pub line : n ≡ length draws.drawing.blocks + number + 1

-- a text is refused for the first rule that it breaks, in the order of the tests
abbrev pub Refused : List ℕ → Refusal → Type 0
Refused t TooLong = 8192 < length t
Refused t (Form n) = WrongForm t n
Refused t (Limit n) = OverLimit t n
Refused t Empty = NothingDrawn t
Refused t (BlockRefused ρ n) = BlockBreaks t ρ n
Refused t (RouteRefused ρ n) = RouteBreaks t ρ n

-- an answer is the right one for a text
abbrev pub RightAnswer : List ℕ → Result Plan Refusal → Type 0
RightAnswer t (Ok p) = Accepted t p
RightAnswer t (Err e) = Refused t e

-- what follows of acceptance: the first block of a route, and its last, is in another route only as that route's first or last block
abbrev pub Apart : Result Plan Refusal → Type 0
Apart (Ok p) = BordersApart p.routes
Apart (Err e) = Unit {0}

-- an answer is the one that is worked out, and the only right one
pub record Answers (t : List ℕ) (r : Result Plan Refusal) : Type 0 where
  pub value : r ≡ read t
  pub right : RightAnswer t r
  pub only : (other : Result Plan Refusal) → RightAnswer t other → r ≡ other
  pub borders : Apart r
