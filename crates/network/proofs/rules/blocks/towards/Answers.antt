use Rattle.std.proofs.Common.{drop, sym, ap, ◌∙◌, add-one}
use Rattle.network.specs.Joints.{towards_from}
use Rattle.network.specs.Track.{ends_of}
use Rattle.network.proofs.Ends.{past_ends, far_some, far_none}
use Rattle.network.proofs.rules.blocks.towards.Goals as goal

pub returns-in-Some : goal.returns-in-Some
returns-in-Some c = let e = c.loop-end.end in sym (far_some (ends_of c.args.block) e e c.args.next _ (sym c.in-Some.ensures)) ∙ c.loop-end.invariant

pub loop-end-preserved : goal.loop-end-preserved
loop-end-preserved c =
    let js = ends_of c.args.block in
    let e = c.loop-end.end in
    ap (λ k. towards_from k (drop k js) c.args.next) (add-one e) ∙ sym (far_none js e e c.args.next (sym c.far_end.ensures ∙ c.in_default.is)) ∙ c.loop-end.invariant

pub returns : goal.returns
returns c = sym (past_ends (λ js. towards_from c.loop-end.end js c.args.next) c.args.block c.loop-end.end c.loop-end-test.false) ∙ c.loop-end.invariant
