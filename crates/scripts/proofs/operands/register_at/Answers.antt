use Rattle.std.proofs.Common.{sym}
use Rattle.scripts.proofs.Registers.{register_at-small}
use Rattle.scripts.proofs.operands.register_at.Goals as goal

pub returns : goal.returns
returns c = sym (register_at-small c.args.number _)
