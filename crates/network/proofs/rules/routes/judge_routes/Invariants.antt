use Rattle.std.proofs.Common.{◌≡◌, length, drop}
use Rattle.table.specs.Tables.{items_of}
use Rattle.network.specs.Drawing.{lists_of}
use Rattle.network.specs.Network.{blocks_of}
use Rattle.network.specs.Judge.{judge_routes, after_routes}
use Rattle.network.specs.Routes.{routes_of}
use Rattle.network.proofs.rules.routes.judge_routes.Given as goal

abbrev pub invariant-loop-number : goal.invariant-loop-number
invariant-loop-number l =
    record { judges : after_routes (routes_of l.routes) (judge_routes (blocks_of l.network) l.number (drop l.number (lists_of l.lists))) ≡ judge_routes (blocks_of l.network) 0 (lists_of l.lists); many : length (items_of l.routes) ≡ l.number }
