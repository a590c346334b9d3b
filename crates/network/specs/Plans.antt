-- What a drawing comes to when it is judged. Assumes nothing.
use Rattle.std.specs.Prelude.{◌≡◌, List, Ok, Err, Result}
use Rattle.network.specs.declared.track.Block.{Block}
use Rattle.network.specs.declared.route.Step.{Step}
use Rattle.table.specs.declared.Table.{Table}
use Rattle.network.specs.declared.rules.Broken.{Broken}
use Rattle.network.specs.Drawing.{Declared}
use Rattle.network.specs.Judge.{Plan, judge}
use Rattle.network.specs.Routes.{routes_of}
use Rattle.network.specs.Rules.{Lawful, Breaks, BordersApart}

abbrev pub routes_or : Result (Table (Table Step 24) 32) Broken → Result (List (List Step)) Broken
routes_or (Ok r) = Ok (routes_of r)
routes_or (Err e) = Err e

abbrev pub with_blocks : List Block → Result (List (List Step)) Broken → Result Plan Broken
with_blocks bs (Ok sss) = Ok (record { blocks = bs; routes = sss })
with_blocks bs (Err e) = Err e

-- what a drawing is judged to be
abbrev pub planned : Declared → Result Plan Broken
planned d = with_blocks d.blocks (judge d.blocks d.routes)

-- a drawing is rightly judged: accepted with its own blocks and the steps of its routes where it meets every rule, else refused for the first rule broken
abbrev pub RightlyPlanned : Declared → Result Plan Broken → Type 0
RightlyPlanned d (Ok p) = (p.blocks ≡ d.blocks) × Lawful d.blocks d.routes p.routes
RightlyPlanned d (Err e) = Breaks d.blocks d.routes e

-- what follows of acceptance: the first and last blocks of routes lie apart from the inner ones
abbrev pub Apart : Result Plan Broken → Type 0
Apart (Ok p) = BordersApart p.routes
Apart (Err e) = Unit {0}

-- a judgement is the one that is worked out, and the only right one
pub record Judges (d : Declared) (r : Result Plan Broken) : Type 0 where
  pub value : r ≡ planned d
  pub right : RightlyPlanned d r
  pub only : (other : Result Plan Broken) → RightlyPlanned d other → r ≡ other
  pub borders : Apart r
