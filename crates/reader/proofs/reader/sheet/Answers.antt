use Rattle.std.proofs.Common.{rules}
use Rattle.reader.proofs.Texts.{answers}
use Rattle.reader.proofs.reader.sheet.Goals as goal

pub returns-then-text-gt-MOST_BYTES : goal.returns-then-text-gt-MOST_BYTES
returns-then-text-gt-MOST_BYTES c = answers _ _ (search rules)

pub returns-in_err-drawing : goal.returns-in_err-drawing
returns-in_err-drawing c = answers _ _ (search rules)

pub returns-then-blocks-eq0 : goal.returns-then-blocks-eq0
returns-then-blocks-eq0 c = answers _ _ (search rules)

pub returns : goal.returns
returns c = answers _ _ (search rules)
