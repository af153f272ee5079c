use Rattle.scripts.specs.PlanValues.{IsLineOf}
use Rattle.scripts.proofs.PlanValuesRead.{each-next}
use Rattle.scripts.proofs.writing.line_values.Goals as goal

pub loop-command-preserved : goal.loop-command-preserved
loop-command-preserved c =
    let at = c.loop-command in
    each-next IsLineOf c.args.commands.now at.command-index c.command-item.result at.lines.items c.push.new.self.items c.in_ok-line_value.field-0 at.invariant
    c.in_ok-line_value.ensures c.command-item.is c.loop-command-test.true c.in_ok-push.ensures.items
