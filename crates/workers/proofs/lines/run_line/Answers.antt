use Rattle.std.proofs.Common.{sym, subst}
use Rattle.traces.specs.declared.script.Command.{Command}
use Rattle.workers.specs.Tidy.{Runs, desk}
use Rattle.workers.proofs.lines.run_line.Goals as goal

pub returns-in-Write : goal.returns-in-Write
returns-in-Write c =
    subst (λ (command : Command). Runs c.args.pool.now (desk c.args.lane.now c.args.registers.now) command c.write.result (desk c.args.lane.now c.write.new.registers))
    (sym c.in-Write.is) (c.write.ensures c.args.pool.now c.args.lane.now c.requires.tidy)
