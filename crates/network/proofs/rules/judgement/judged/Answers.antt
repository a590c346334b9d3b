use Rattle.std.proofs.Common.{◌≡◌, ℕ, List, Ok, Err, Result, rules}
use Rattle.std.specs.Result.{IfOk}
use Rattle.table.specs.declared.Table.{Table}
use Rattle.network.specs.declared.track.Block.{Block}
use Rattle.network.specs.declared.route.Step.{Step}
use Rattle.network.specs.declared.rules.Broken.{Broken}
use Rattle.network.specs.Drawing.{lists_of}
use Rattle.network.specs.Judge.{judge}
use Rattle.network.specs.Network.{blocks_of}
use Rattle.network.specs.Plans.{routes_or}
use Rattle.network.specs.Routes.{routes_of, AsJudged}
use Rattle.network.proofs.Sheets.{all_kept, accepted_lawful, judges}
use Rattle.network.proofs.rules.judgement.judged.Goals as goal

lawful_if : (bs : List Block) (rs : List (List ℕ)) (r : Result (Table (Table Step 24) 32) Broken) → judge bs rs ≡ routes_or r → IfOk r (λ x. AsJudged bs (routes_of x))
lawful_if bs rs (Ok x) e = accepted_lawful bs rs (routes_of x) e
lawful_if bs rs (Err b) e = tt

pub returns-in_err-keep : goal.returns-in_err-keep
returns-in_err-keep c = record { judges = judges _ _ (search rules); lawful = search rules }

pub returns-in_err-keep-2 : goal.returns-in_err-keep-2
returns-in_err-keep-2 c = record { judges = judges _ _ (search rules); lawful = search rules }

pub returns-in_err-keep-3 : goal.returns-in_err-keep-3
returns-in_err-keep-3 c = record { judges = judges _ _ (search rules); lawful = search rules }

pub returns : goal.returns
returns c =
    let judged = all_kept (blocks_of c.args.network.now) (lists_of c.args.lists.now) _ _ _ _ c.in_ok-keep.ensures c.in_ok-keep-2.ensures c.in_ok-keep-3.ensures c.judge_routes.ensures in
    record { judges = judges _ _ (search rules); lawful = lawful_if (blocks_of c.args.network.now) (lists_of c.args.lists.now) c.judge_routes.result judged }
