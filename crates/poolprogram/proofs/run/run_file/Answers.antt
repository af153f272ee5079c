use Rattle.std.proofs.Common.{rules}
use Rattle.std.proofs.lemmas.Result.{IfOk-weaker, IfErr-weaker}
use Rattle.scripts.specs.Readings.{StandsFor}
use Rattle.poolprogram.proofs.Running.{refuses_run}
use Rattle.poolprogram.proofs.run.run_file.Goals as goal

pub returns-clause-ok : goal.returns-clause-ok
returns-clause-ok g c =
    let stands : StandsFor c.args.file.now c.in_ok-plan.plan = search rules in
    IfOk-weaker c.run_plan.result _ _ (λ text run. record { plan = c.in_ok-plan.plan; stands = stands; run = run }) c.run_plan.ensures.ok

pub returns-clause-err : goal.returns-clause-err
returns-clause-err g c =
    let stands : StandsFor c.args.file.now c.in_ok-plan.plan = search rules in
    IfErr-weaker c.run_plan.result _ _ (λ fault is. refuses_run c.args.file.now c.in_ok-plan.plan fault stands is) c.run_plan.ensures.err
