use Rattle.std.proofs.Common.{sym, ap, ◌∙◌}
use Rattle.reader.specs.Views.{words_in, head, tail}
use Rattle.reader.proofs.Cuts.{cut_some, cut_none, pieces_whole}
use Rattle.reader.proofs.words.Words.word.Goals as goal

pub returns-in-Some-clause-word : goal.returns-in-Some-clause-word
returns-in-Some-clause-word c = let e = ap words_in c.in_ok-rest.was ∙ cut_some 32 c.in_ok-rest.rest.now c.in-Some.word.now c.in-Some.behind.now c.in-Some.ensures in sym (ap head e)

pub returns-in-Some-clause-rest : goal.returns-in-Some-clause-rest
returns-in-Some-clause-rest c = let e = ap words_in c.in_ok-rest.was ∙ cut_some 32 c.in_ok-rest.rest.now c.in-Some.word.now c.in-Some.behind.now c.in-Some.ensures in sym (ap tail e)

pub returns-in-None-clause-word : goal.returns-in-None-clause-word
returns-in-None-clause-word c =
    let xs = c.in_ok-rest.rest.now in
    let e = ap words_in c.in_ok-rest.was ∙ pieces_whole 32 xs (cut_none 32 xs c.in-None.ensures) in
    sym (ap head e)

pub returns-in-None-clause-rest : goal.returns-in-None-clause-rest
returns-in-None-clause-rest c =
    let xs = c.in_ok-rest.rest.now in
    let e = ap words_in c.in_ok-rest.was ∙ pieces_whole 32 xs (cut_none 32 xs c.in-None.ensures) in
    sym (ap tail e)
