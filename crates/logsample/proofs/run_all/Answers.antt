-- The report at a number is that of the task at it.
use Rattle.std.proofs.Common.{◌∙◌}
use Rattle.logsample.specs.declared.tasks.Task.TheVariants.{Work, Collect}
use Rattle.logsample.specs.declared.TheConstants.{WORKERS}
use Rattle.logsample.proofs.run_all.Goals as goal

pub returns-in-Ok : goal.returns-in-Ok
returns-in-Ok g c =
    let tasks = c.in_ok-tasks.ensures in record {
      reports = record {
        count = c.in-Ok.ensures.ran.count ∙ tasks.count;
        workers = λ number report low at. let task = tasks.workers number low in (c.in-Ok.ensures.ran.each number (Work number task.0) report task.1 at).did;
        collector = λ report at. let task = tasks.collector in (c.in-Ok.ensures.ran.each WORKERS (Collect task.0) report task.1 at).did;
      };
    }
