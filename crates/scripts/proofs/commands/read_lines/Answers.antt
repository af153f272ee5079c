use Rattle.std.proofs.Common.{arith}
use Rattle.std.proofs.lemmas.Result.{err_from_is_err_and}
use Rattle.scripts.specs.ScriptFiles.{command_of}
use Rattle.scripts.proofs.Sequences.{none-read, next-read, never-read, all-read}
use Rattle.scripts.proofs.commands.read_lines.Goals as goal

pub loop-line-init : goal.loop-line-init
loop-line-init c = none-read (command_of c.args.lane) c.in_ok-commands.commands.items c.args.lines.now c.in_ok-commands.ensures.items

pub loop-line-preserved : goal.loop-line-preserved
loop-line-preserved c =
    next-read (command_of c.args.lane) c.loop-line.commands.items _ c.in_ok-command.command c.loop-line.line c.index-lines-line.result c.args.lines.now
    c.loop-line-test.true c.index-lines-line.is c.loop-line.invariant c.in_ok-command.ensures c.in_ok-push.ensures.items

pub returns-in_err-command : goal.returns-in_err-command
returns-in_err-command c =
    let p = err_from_is_err_and c.from_residual-in_err-command.result c.from_residual-in_err-command.ensures.1 in
    rw (p.1, p.2) (never-read (command_of c.args.lane) c.loop-line.commands.items c.loop-line.line c.index-lines-line.result c.args.lines.now
    c.in_err-command.field-0.0 c.loop-line-test.true c.index-lines-line.is c.loop-line.invariant (c.in_err-command.ensures {u = tt}))

pub returns : goal.returns
returns c =
    rw c.from_vec.ensures
    (all-read (command_of c.args.lane) c.loop-line.commands.items c.loop-line.line c.args.lines.now (omega arith) c.loop-line.invariant)
