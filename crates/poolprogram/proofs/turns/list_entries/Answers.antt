use Rattle.std.proofs.Common.{inr, refl}
use Rattle.poolprogram.proofs.turns.list_entries.Goals as goal

pub returns-clause-err : goal.returns-clause-err
returns-clause-err c = inr (refl, (c.in-InFile.field-0, c.in-InFile.is))
