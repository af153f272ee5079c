use Rattle.std.proofs.Common.{◌∙◌, sym}
use Rattle.schedules.proofs.Schedules.{no-stop-by}
use Rattle.schedules.proofs.schedule.read_stop.Goals as goal

pub returns-then-is_some : goal.returns-then-is_some
returns-then-is_some c =
    sym (no-stop-by c.args.text.now c.in_ok-lane.lane.now c.in_ok-lane.after.now c.cut-2.result c.in_ok-lane.ensures.parts
    (sym c.is_some.ensures ∙ c.if-is_some.true) c.cut-2.ensures.parts)
