-- What reports on two sheets come to. Assumes nothing.
use Rattle.std.proofs.Common.{◌≡◌, [], ◌∷◌, ◌++◌, codes, refl}
use Rattle.std.specs.Fmt.{digits}
use Rattle.reader.specs.Text.{ended}
use Rattle.report.specs.Reports.{report_of}

pub junction : report_of (ended (codes "plain - 1.0") ++ ended (codes "point 0.1 2.0 3.0") ++ ended (codes "plain 1.1 -") ++ ended (codes "crossing 1.2 4.0 5.0 6.0") ++ ended (codes "plain 3.1 -") ++ ended (codes "plain 3.2 -") ++ ended (codes "plain 3.3 -") ++ ended (codes "route 0 1 2") ++ ended (codes "route 0 1 3 4") ++ ended (codes "route 5 3 6") ++ ended (codes "route 4 3 1 0")) ≡ (ended (codes "ok 7 4") ++ ended (codes "route 0 0:->1 1:0>1L 2:0>-") ++ ended (codes "route 1 0:->1 1:0>2R 3:0>1 4:0>-") ++ ended (codes "route 2 5:->0 3:2>3 6:0>-") ++ ended (codes "route 3 4:->0 3:1>0 1:2>0R 0:1>-"))
unfolding digits
junction = refl

pub damaged : report_of (ended (codes "plain - 1.0") ++ ended (codes "plain 0.1 -" ++ 13 ∷ []) ++ codes "route 0 1")
    ≡ ended (codes "no 2 2") ++ (codes "line 2: not a well-formed block or route line, a block line behind a route line, or a last line without a line end: " ++ 34 ∷ [] ++ codes "plain 0.1 -" ++ 92 ∷ [] ++ codes "x0d" ++ 34 ∷ 10 ∷ [])
unfolding digits
damaged = refl
