use Rattle.std.proofs.Common.{arith}
use Rattle.scripts.proofs.writing.hex_text.Goals as goal

pub returns-clause-bytes : goal.returns-clause-bytes
returns-clause-bytes c = λ i. let small = c.type_inv.bytes i in omega arith
