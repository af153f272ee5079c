use Rattle.std.proofs.Common.{List, subst}
use Rattle.traces.specs.declared.script.Command.{Command}
use Rattle.traces.specs.Lawful.{IsLawful}
use Rattle.outcomes.proofs.follow.trace_of.Goals as goal

pub returns-in-Ok : goal.returns-in-Ok
returns-in-Ok c =
    subst (λ (scripts : List (List Command)). IsLawful c.args.shape.now scripts c.args.schedule.now c.in-Ok.trace) c.in_ok-copies.ensures
    c.in-Ok.ensures.lawful
