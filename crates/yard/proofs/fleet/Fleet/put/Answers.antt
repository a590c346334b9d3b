use Rattle.std.proofs.Common.{refl}
use Rattle.std.proofs.lemmas.List.{map-set}
use Rattle.yard.proofs.fleet.Fleet.put.Goals as goal

pub returns-clause-stock : goal.returns-clause-stock
returns-clause-stock c = simp map-set refl
