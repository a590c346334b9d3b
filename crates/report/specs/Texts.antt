-- What is written of a sheet, byte by byte. Assumes nothing.
use Rattle.std.specs.Prelude.{ℕ, suc, ◌-◌, ◌/◌, ◌%◌, Bool, true, false, cond, not, ◌&&◌, List, [], ◌∷◌, ◌++◌, length, Some, None, codes, decimal, Option, ◌==◌, nat_le, slice_index_or}
use Rattle.std.specs.List.{flat_map}
use Rattle.std.specs.Char.{digit_char}
use Rattle.network.specs.declared.track.Joint.{Joint}
use Rattle.network.specs.declared.track.Joint.TheVariants.{Outer, Joined}
use Rattle.network.specs.declared.track.Block.{Block}
use Rattle.network.specs.declared.track.Position.{Position}
use Rattle.network.specs.declared.track.Position.TheVariants.{Left, Right}
use Rattle.network.specs.declared.route.Step.{Step}
use Rattle.network.specs.declared.rules.BlockRule.{BlockRule}
use Rattle.network.specs.declared.rules.BlockRule.TheVariants.{JointsExist, OuterEnds, JointsMutual}
use Rattle.network.specs.declared.rules.RouteRule.{RouteRule}
use Rattle.network.specs.declared.rules.RouteRule.TheVariants.{Blocks, Borders, Ways}
use Rattle.network.specs.Joints.{joint_of}
use Rattle.network.specs.Judge.{Plan}
use Rattle.reader.specs.declared.refusal.Refusal.{Refusal}
use Rattle.reader.specs.declared.refusal.Refusal.TheVariants.{TooLong, Form, Limit, Empty, Block as BlockRefused, Route as RouteRefused}
use Rattle.reader.specs.Refusals.{number_of, line_of}
use Rattle.reader.specs.Words.{pieces}

abbrev pub leads_outside : Option Joint → Bool
leads_outside None = false
leads_outside (Some Outer) = true
leads_outside (Some (Joined c f)) = false

-- end e of block b: its number, or `-` for an outer end
abbrev pub end_text : List Block → ℕ → ℕ → List ℕ
end_text bs b e = cond (leads_outside (joint_of bs b e)) (codes "-") (decimal e)

abbrev pub needs_text : Option Position → List ℕ
needs_text None = []
needs_text (Some Left) = codes "L"
needs_text (Some Right) = codes "R"

-- a step: the block, the end by which it is entered, the end by which it is left, and the position that it needs
abbrev pub step_text : List Block → Step → List ℕ
step_text bs s =
    codes " " ++ (decimal s.block ++ (codes ":" ++ (end_text bs s.block s.entered ++ (codes ">" ++ (end_text bs s.block s.left ++ needs_text s.needs)))))

abbrev pub line_end : List ℕ
line_end = 10 ∷ []

-- the line of route n
abbrev pub route_text : List Block → ℕ → List Step → List ℕ
route_text bs n ss = (codes "route " ++ decimal n) ++ flat_map (step_text bs) ss ++ line_end

-- the lines of routes that are numbered from n
abbrev pub routes_text : List Block → ℕ → List (List Step) → List ℕ
routes_text bs n [] = []
routes_text bs n (r ∷ rs) = route_text bs n r ++ routes_text bs (suc n) rs

-- the first line for an accepted sheet: how many blocks and routes it has
abbrev pub ok_line : Plan → List ℕ
ok_line p = codes "ok " ++ (decimal (length p.blocks) ++ (codes " " ++ (decimal (length p.routes) ++ line_end)))

abbrev pub accepted_text : Plan → List ℕ
accepted_text p = ok_line p ++ routes_text p.blocks 0 p.routes

-- a byte that is shown as it is: a visible one or a space, but for the quote and the backslash
abbrev pub is_visible : ℕ → Bool
is_visible b = nat_le 32 b && (nat_le b 126 && (not (b == 34) && not (b == 92)))

-- any other byte is shown as `\x` and two hexadecimal digits
abbrev pub hex_text : ℕ → List ℕ
hex_text b = 92 ∷ 120 ∷ digit_char (b / 16) ∷ digit_char (b % 16) ∷ []

abbrev pub byte_text : ℕ → List ℕ
byte_text b = cond (is_visible b) (b ∷ []) (hex_text b)

-- the line behind n line ends, as it is shown
abbrev pub shown_line : List ℕ → ℕ → List ℕ
shown_line t n = flat_map byte_text (slice_index_or (pieces 10 t) n [])

abbrev pub quoted : List ℕ → List ℕ
quoted l = 34 ∷ [] ++ (l ++ 34 ∷ [])

abbrev pub block_message : BlockRule → List ℕ
block_message JointsExist = codes "a joint names a block or an end that does not exist"
block_message JointsMutual = codes "a joint is not mutual, leads to the block itself, or is a second joint between the same two blocks"
block_message OuterEnds = codes "an outer end where none may be: only a plain block has one, and only one"

abbrev pub route_message : RouteRule → List ℕ
route_message Blocks = codes "the route has fewer than two blocks, a block that does not exist, or a block twice"
route_message Ways = codes "two neighbouring blocks are not joined, no way leads through a block, or the route is not entered and left by outer ends"
route_message Borders = codes "the first or the last block of the route has no outer end"

abbrev pub message_of : Refusal → List ℕ
message_of TooLong = codes "the sheet has more than 8192 bytes"
message_of (Form n) = codes "not a well-formed block or route line, a block line behind a route line, or a last line without a line end"
message_of (Limit n) = codes "over a limit: at most 64 blocks, 32 routes, and 24 blocks in a route"
message_of Empty = codes "the sheet has no block line or no route line"
message_of (BlockRefused ρ n) = block_message ρ
message_of (RouteRefused ρ n) = route_message ρ

-- a refusal of the sheet t: what is wrong, and where it is one line, that line
abbrev pub reason_text : List ℕ → Refusal → List ℕ
reason_text t e =
    cond (line_of e == 0) (message_of e)
    (codes "line " ++ (decimal (line_of e) ++ (codes ": " ++ (message_of e ++ (codes ": " ++ quoted (shown_line t (line_of e - 1)))))))

-- the first line for a refused sheet: the number and the line of the refusal
abbrev pub no_line : Refusal → List ℕ
no_line e = codes "no " ++ (decimal (number_of e) ++ (codes " " ++ (decimal (line_of e) ++ line_end)))

abbrev pub refused_text : List ℕ → Refusal → List ℕ
refused_text t e = no_line e ++ (reason_text t e ++ line_end)
