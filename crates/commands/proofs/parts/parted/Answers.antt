use Rattle.commands.proofs.Parting.{goes_on, cut_here, no_mark, parted_as}
use Rattle.commands.proofs.parts.parted.Goals as goal

pub returns-then-ends_sheet : goal.returns-then-ends_sheet
returns-then-ends_sheet c =
    let l = c.loop-line in
    let t = c.args.input.now in
    let p = cut_here t l.rest.now l.invariant c.in-Some.line.text.now c.in-Some.line.rest.now c.in-Some.ensures.value c.if-ends_sheet.ensures in
    record { sheet = p.0; commands = p.1; parted = parted_as t _ _ p.0 p.1 }

pub loop-line-preserved : goal.loop-line-preserved
loop-line-preserved c =
    let l = c.loop-line in
    goes_on c.args.input.now l.rest.now l.invariant c.in-Some.line.text.now c.in-Some.line.rest.now c.in-Some.ensures.value c.if-ends_sheet.ensures

pub returns : goal.returns
returns c =
    let l = c.loop-line in
    let t = c.args.input.now in
    let p = no_mark t l.rest.now l.invariant c.in_default.ensures.value in
    record { sheet = p.0; commands = p.1; parted = parted_as t _ _ p.0 p.1 }
