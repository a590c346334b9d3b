use Rattle.std.proofs.Common.{◌≡◌, [], length, Some}
use Rattle.table.specs.Tables.{items_of}
use Rattle.reader.specs.Reads.{each_read}
use Rattle.reader.specs.Views.{ahead, kept_so}
use Rattle.reader.proofs.Rows.{after}
use Rattle.reader.proofs.named.named.Given as goal

abbrev pub invariant-loop-token : goal.invariant-loop-token
invariant-loop-token g l =
    after g.row.N (kept_so l.fits (items_of l.table)) (each_read g.T.FromToken.said l.words.line (ahead l.words)) ≡ after g.row.N (Some []) (each_read g.T.FromToken.said l.initial.words.line (ahead l.initial.words))

abbrev pub decreases-loop-token : goal.decreases-loop-token
decreases-loop-token g l = length (ahead l.words)
