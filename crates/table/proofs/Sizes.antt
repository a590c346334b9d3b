-- A table holds no more items than it has places.
use Rattle.std.proofs.Common.{◌≡◌, ℕ, ◌≤◌, length, sym, arith}
use Rattle.std.proofs.lemmas.List.{length-take-le}
use Rattle.table.specs.declared.Table.{Table}
use Rattle.table.specs.Tables.{items_of}

-- what is counted is what there is
pub items_many : {A : Type 0} {n : ℕ} (t : Table A n) → t.len ≡ length (items_of t)
items_many t = sym (length-take-le t.len t.items (omega (arith, t.fits)))

pub few_items : {A : Type 0} {n : ℕ} (t : Table A n) → length (items_of t) ≤ n
few_items t = let l = length-take-le t.len t.items (omega (arith, t.fits)) in omega (arith, t.fits, l)
