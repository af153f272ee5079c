use Rattle.std.proofs.Common.{rules}
use Rattle.scripts.specs.Readings.{StandsFor}
use Rattle.poolprogram.proofs.turns.plan_turns.Goals as goal

pub returns-in-Ok-clause-shape : goal.returns-in-Ok-clause-shape
returns-in-Ok-clause-shape c =
    let stands : StandsFor c.args.file.now c.in_ok-plan.plan = search rules in
    stands.is.shape
