use Rattle.std.proofs.Common.{◌++◌, List, length, ap, ap₂}
use Rattle.std.proofs.lemmas.List.{drop-replicate}
use Rattle.table.proofs.Table.from_slice.Goals as goal

pub returns-clause-memory : goal.returns-clause-memory
returns-clause-memory g c =
    let xs = c.args.items.now in
    let places = ap₂ (λ (a b : List g.row.T.Denot). a ++ b) c.copy_from_slice.ensures.after (drop-replicate (length xs) g.row.N c.args.fill) in
    ap (λ (ys : List g.row.T.Denot). record { places = ys; len = length xs }) places
