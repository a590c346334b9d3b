use Rattle.std.proofs.Common.{refl}
use Rattle.network.proofs.Sheets.{lawful_plan, borders_apart}
use Rattle.network.proofs.sheet.Sheet.is_lawful.Goals as goal

pub returns : goal.returns
returns c = let w = lawful_plan _ _ c.args.self.now.lawful in record { value = refl; rules = w; borders = borders_apart _ _ w }
