-- The steps of routes, as lists. Assumes nothing.
use Rattle.std.specs.Prelude.{◌≡◌, ℕ, List, map, Some, None, Ok, Err, Option, Result}
use Rattle.network.specs.declared.track.Block.{Block}
use Rattle.network.specs.declared.route.Step.{Step}
use Rattle.table.specs.declared.Table.{Table}
use Rattle.table.specs.Tables.{items_of}
use Rattle.network.specs.declared.rules.RouteRule.{RouteRule}
use Rattle.network.specs.Judge.{judge}

abbrev pub steps_of : Table Step 24 → List Step
steps_of r = items_of r

abbrev pub steps_if : Option (Table Step 24) → Option (List Step)
steps_if None = None
steps_if (Some r) = Some (steps_of r)

abbrev pub steps_or : Result (Table Step 24) RouteRule → Result (List Step) RouteRule
steps_or (Ok r) = Ok (steps_of r)
steps_or (Err ρ) = Err ρ

abbrev pub routes_of : Table (Table Step 24) 32 → List (List Step)
routes_of r = map steps_of (items_of r)

-- the numbers of the blocks that steps run through
abbrev pub blocks_in : List Step → List ℕ
blocks_in ss = map (λ (s : Step). s.block) ss

-- routes over the blocks bs that, judged by their block numbers, are accepted as they stand
abbrev pub AsJudged : List Block → List (List Step) → Type 0
AsJudged bs sss = judge bs (map blocks_in sss) ≡ Ok sss
