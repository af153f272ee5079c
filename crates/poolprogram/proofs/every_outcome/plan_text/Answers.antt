use Rattle.std.proofs.Common.{List, subst, arith}
use Rattle.traces.specs.declared.script.Command.{Command}
use Rattle.outcomes.specs.Outcomes.{AreOutcomes}
use Rattle.outcomes.proofs.TextLemmas.{few-lanes}
use Rattle.poolprogram.proofs.every_outcome.plan_text.Goals as goal

pub outcomes_text-requires : goal.outcomes_text-requires
outcomes_text-requires c =
    let found = c.in-Ok.found in
    few-lanes c.args.plan.shape _ found.outcomes.items found.ways (omega (arith, c.requires.shape.1)) c.in-Ok.ensures.ok

pub returns-in-Ok-clause-ok : goal.returns-in-Ok-clause-ok
returns-in-Ok-clause-ok c =
    let plan = c.args.plan in
    let found = c.in-Ok.found in
    record {
      found = found;
      are = subst (λ (scripts : List (List Command)). AreOutcomes plan.shape scripts found.outcomes.items found.ways) c.as_slice.ensures
          c.in-Ok.ensures.ok;
      within = c.in-Ok.ensures.most;
      is = c.in_ok-text-in-Ok.ensures;
    }
