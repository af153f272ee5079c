use Rattle.std.proofs.Common.{rules}
use Rattle.workers.proofs.Setting.{held-now}
use Rattle.workers.proofs.registers.hold.Goals as goal

pub returns : goal.returns
returns c = held-now c.args.registers.now c.args.number.number _ c.args.held (search rules)
