-- What the lanes are to do, and what comes of it.
use Rattle.std.specs.Prelude.{◌≡◌, ⊤, ℕ, ◌+◌, ◌<◌, List, length, Some, None, slice_get}
use Rattle.logsample.specs.declared.tasks.Task.{Task}
use Rattle.logsample.specs.declared.tasks.Task.TheVariants.{Work, Collect}
use Rattle.logsample.specs.declared.tasks.Report.{Report}
use Rattle.logsample.specs.declared.tasks.Report.TheVariants.{Worked, Collected}
use Rattle.logsample.specs.declared.tasks.TheConstants.{REQUESTS}
use Rattle.logsample.specs.declared.TheConstants.{WORKERS}

-- the report is a worker's: it has logged all its requests, or something stopped it before the end
abbrev pub IsOfWorker : Report → Type 0
IsOfWorker (Worked logged None) = logged ≡ REQUESTS
IsOfWorker (Worked logged (Some fault)) = logged < REQUESTS
IsOfWorker (Collected totals) = ⊥

-- the report is the collector's
abbrev pub IsOfCollector : Report → Type 0
IsOfCollector (Worked logged stopped) = ⊥
IsOfCollector (Collected totals) = Unit {0}

-- the report may come of the task
abbrev pub Reports : {N : Type 0} → Task N → Report → Type 0
Reports (Work worker to) report = IsOfWorker report
Reports (Collect from) report = IsOfCollector report

-- the workers' tasks by their numbers, and last the collector's
pub record AreTasks {N : Type 0} (tasks : List (Task N)) : Type 0 where
  pub count : length tasks ≡ WORKERS + 1
  pub workers : (worker : ℕ) → worker < WORKERS → (to : ⊤) × (slice_get tasks worker ≡ Some (Work worker to))
  pub collector : (from : ⊤) × (slice_get tasks WORKERS ≡ Some (Collect from))

-- the workers' reports by their numbers, and last the collector's
pub record AreReports (reports : List Report) : Type 0 where
  pub count : length reports ≡ WORKERS + 1
  pub workers : (number : ℕ) (report : Report) → number < WORKERS → slice_get reports number ≡ Some report → IsOfWorker report
  pub collector : (report : Report) → slice_get reports WORKERS ≡ Some report → IsOfCollector report
