use Rattle.std.proofs.Common.{arith}
use Rattle.std.proofs.lemmas.Result.{err_from_is_err_and}
use Rattle.scripts.specs.ScriptFiles.{script_of}
use Rattle.scripts.proofs.Sequences.{none-read, next-read, never-read, all-read}
use Rattle.scripts.proofs.commands.read_all.Goals as goal

pub loop-lane-init : goal.loop-lane-init
loop-lane-init c = none-read script_of c.in_ok-scripts.scripts.items c.args.values.now c.in_ok-scripts.ensures.items

pub loop-lane-preserved : goal.loop-lane-preserved
loop-lane-preserved c =
    next-read script_of c.loop-lane.scripts.items _ c.in_ok-script.script c.loop-lane.lane c.index-values-lane.result c.args.values.now
    c.loop-lane-test.true c.index-values-lane.is c.loop-lane.invariant c.in_ok-script.ensures c.in_ok-push.ensures.items

pub returns-in_err-script : goal.returns-in_err-script
returns-in_err-script c =
    let p = err_from_is_err_and c.from_residual-in_err-script.result c.from_residual-in_err-script.ensures.1 in
    rw (p.1, p.2) (never-read script_of c.loop-lane.scripts.items c.loop-lane.lane c.index-values-lane.result c.args.values.now
    c.in_err-script.field-0.0 c.loop-lane-test.true c.index-values-lane.is c.loop-lane.invariant (c.in_err-script.ensures {u = tt}))

pub returns : goal.returns
returns c =
    rw c.from_vec.ensures
    (all-read script_of c.loop-lane.scripts.items c.loop-lane.lane c.args.values.now (omega arith) c.loop-lane.invariant)
