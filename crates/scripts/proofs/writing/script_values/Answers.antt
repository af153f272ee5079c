use Rattle.scripts.specs.PlanValues.{IsScriptOf}
use Rattle.scripts.proofs.PlanValuesRead.{each-next}
use Rattle.scripts.proofs.writing.script_values.Goals as goal

pub loop-script-preserved : goal.loop-script-preserved
loop-script-preserved c =
    let at = c.loop-script in
    each-next IsScriptOf c.args.scripts.now at.script-index c.script-item.result at.values.items c.push.new.self.items c.in_ok-script_value.field-0 at.invariant
    c.in_ok-script_value.ensures c.script-item.is c.loop-script-test.true c.in_ok-push.ensures.items
