-- The number and the line of a refusal. Assumes nothing.
use Rattle.std.specs.Prelude.{ℕ}
use Rattle.network.specs.declared.rules.BlockRule.{BlockRule}
use Rattle.network.specs.declared.rules.BlockRule.TheVariants.{JointsExist, OuterEnds, JointsMutual}
use Rattle.network.specs.declared.rules.RouteRule.{RouteRule}
use Rattle.network.specs.declared.rules.RouteRule.TheVariants.{Blocks, Borders, Ways}
use Rattle.reader.specs.declared.refusal.Refusal.{Refusal}
use Rattle.reader.specs.declared.refusal.Refusal.TheVariants.{TooLong, Form, Limit, Empty, Block, Route}

abbrev pub block_number : BlockRule → ℕ
block_number JointsExist = 5
block_number JointsMutual = 6
block_number OuterEnds = 7

abbrev pub route_number : RouteRule → ℕ
route_number Blocks = 8
route_number Ways = 9
route_number Borders = 10

abbrev pub number_of : Refusal → ℕ
number_of TooLong = 1
number_of (Form n) = 2
number_of (Limit n) = 3
number_of Empty = 4
number_of (Block ρ n) = block_number ρ
number_of (Route ρ n) = route_number ρ

-- lines from 1; 0 where the refusal is of the whole sheet
abbrev pub line_of : Refusal → ℕ
line_of TooLong = 0
line_of (Form n) = n
line_of (Limit n) = n
line_of Empty = 0
line_of (Block ρ n) = n
line_of (Route ρ n) = n
