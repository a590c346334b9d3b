use Rattle.std.proofs.Common.{Some, sym, ap, ◌∙◌}
use Rattle.table.specs.Tables.{items_of}
use Rattle.reader.specs.Reads.{each_read}
use Rattle.reader.specs.Views.{ahead, kept, kept_if, kept_so}
use Rattle.reader.proofs.Rows.{after, from_start, and_pushed, refused, word_taken, ended, kept_and}
use Rattle.reader.proofs.named.named.Goals as goal

pub loop-token-init : goal.loop-token-init
loop-token-init g c =
    ap (λ xs. after g.row.N (Some xs) (each_read g.T.FromToken.said c.args.words.now.line (ahead c.args.words.now))) c.new-table.ensures.items

pub returns-in_err-from_token : goal.returns-in_err-from_token
returns-in_err-from_token g c =
    let l = c.loop-token in
    let none = refused g.row.N g.T.FromToken.said l.words.line (kept_so l.fits (items_of l.table)) (ahead l.words) _ c.in-Some.ensures.token (sym c.from_token.ensures ∙ c.in_err-from_token.was) in
    ap kept_if c.from_residual.ensures ∙ sym none ∙ l.invariant ∙ from_start g.row.N _

pub loop-token-preserved : goal.loop-token-preserved
loop-token-preserved g c =
    let l = c.loop-token in
    let f = g.T.FromToken.said in
    let k = kept_so l.fits (items_of l.table) in
    let w = c.next.new.self in
    let more = and_pushed g.row.N l.fits c.push.result (items_of l.table) (items_of c.push.new.self) _ c.push.ensures.items in
    let all = ap (λ r. kept_so r (items_of c.push.new.self)) c.and-fits.ensures ∙ more in
    word_taken g.row.N f l.words.line k _ (ahead l.words) (ahead w) w.line _ _ c.in-Some.ensures.token (sym c.from_token.ensures ∙ c.in_ok-from_token.was) all c.next.ensures.rest c.next.ensures.line
    ∙ l.invariant

pub returns : goal.returns
returns g c =
    let l = c.loop-token in
    let done = ended g.row.N g.T.FromToken.said l.words.line (kept_so l.fits (items_of l.table)) (ahead l.words) c.in_default.ensures.token in
    ap (λ r. Some (kept r)) c.and.ensures ∙ ap Some (kept_and g.row.N l.fits l.table) ∙ sym done ∙ l.invariant ∙ from_start g.row.N _
