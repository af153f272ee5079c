use Rattle.std.proofs.Common.{append_assoc}
use Rattle.explanations.proofs.json_fault.open_told.Goals as goal

pub returns : goal.returns
returns c = simp append_assoc (simp (c.line_number-line.ensures, c.column_number-column.ensures) at c.format.ensures.ok)
