use Rattle.std.proofs.Common.{cond, [], ◌++◌, is_ok, string_bytes, ap, ◌∙◌, subst, rules}
use Rattle.commands.specs.Answers.{answer_text}
use Rattle.commands.specs.Commands.{command_of}
use Rattle.commands.specs.Lines.{lines_of}
use Rattle.interlocking.specs.History.{begun}
use Rattle.desk.proofs.Working.{SoFar, at_first, one_line, at_last, answered_more}
use Rattle.desk.proofs.play.Goals as goal

pub loop-line-init : goal.loop-line-init
loop-line-init g c = (at_first _ _ _ _ _, record { events = []; history = begun })

pub returns-in_err-write_answer : goal.returns-in_err-write_answer
returns-in_err-write_answer g c =
    let worked = answered_more g.T.Look g.T.Wishing.joins (command_of c.in-Some.line.text.now) c.answer.result c.loop-line.invariant.1 c.answer.ensures in
    search rules

pub loop-line-preserved : goal.loop-line-preserved
loop-line-preserved g c =
    let joins = g.T.Wishing.joins in
    let line = c.in-Some.line in
    let so_far = subst (λ left. SoFar g.T.Look joins c.args.interlocking.now (lines_of c.args.commands.now) (string_bytes c.args.out.now) c.loop-line.interlocking left (string_bytes c.loop-line.out)) c.in-Some.ensures.lines c.loop-line.invariant.0 in
    let was = string_bytes c.loop-line.out in
    let wrote = c.write_answer.ensures ∙ ap (λ r. cond (is_ok r) (was ++ answer_text c.answer.result) was) c.in_ok-write_answer.was in (
      one_line g.T.Look joins c.args.interlocking.now (lines_of c.args.commands.now) (string_bytes c.args.out.now) line.text.now c.answer.result (string_bytes c.write_answer.new.out) so_far c.answer.ensures wrote,
      answered_more g.T.Look joins (command_of line.text.now) c.answer.result c.loop-line.invariant.1 c.answer.ensures,
    )

pub returns : goal.returns
returns g c =
    let joins = g.T.Wishing.joins in
    let so_far = subst (λ left. SoFar g.T.Look joins c.args.interlocking.now (lines_of c.args.commands.now) (string_bytes c.args.out.now) c.loop-line.interlocking left (string_bytes c.loop-line.out)) c.in_default.ensures.lines c.loop-line.invariant.0 in
    record { played = at_last g.T.Look joins c.args.interlocking.now (lines_of c.args.commands.now) (string_bytes c.args.out.now) so_far; worked = c.loop-line.invariant.1 }
