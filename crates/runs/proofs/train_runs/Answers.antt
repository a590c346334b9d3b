use Rattle.std.proofs.Common.{refl}
use Rattle.runs.proofs.Running.{train_runs}
use Rattle.runs.proofs.train_runs.Goals as goal

pub returns : goal.returns
returns c = train_runs _ refl
