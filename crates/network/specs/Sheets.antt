-- What an accepted sheet says. Assumes nothing.
use Rattle.std.specs.Prelude.{map, Ok, Err, Result}
use Rattle.network.specs.declared.rules.Broken.{Broken}
use Rattle.network.specs.declared.sheet.Sheet.{Sheet}
use Rattle.network.specs.Judge.{Plan}
use Rattle.network.specs.Network.{blocks_of}
use Rattle.network.specs.Routes.{routes_of, blocks_in}
use Rattle.network.specs.Rules.{Lawful}

abbrev pub plan_of : Sheet → Plan
plan_of s = record { blocks = blocks_of s.network; routes = routes_of s.routes }

abbrev pub plan_or : Result Sheet Broken → Result Plan Broken
plan_or (Ok s) = Ok (plan_of s)
plan_or (Err e) = Err e

-- every block and every route meets every rule, and the routes' steps are theirs
abbrev pub PlanLawful : Plan → Type 0
PlanLawful p = Lawful p.blocks (map blocks_in p.routes) p.routes
