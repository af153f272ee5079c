-- The tasks so far are the first workers'.
use Rattle.std.proofs.Common.{◌≡◌, ◌<◌, ℕ, Some, length, slice_get}
use Rattle.std.specs.Prelude.{⊤}
use Rattle.logsample.specs.declared.tasks.Task.TheVariants.{Work}
use Rattle.logsample.proofs.all_tasks.Given as goal

abbrev pub invariant-loop-worker : goal.invariant-loop-worker
invariant-loop-worker g l = record {
  count : length l.tasks.items ≡ l.worker;
  each : (worker : ℕ) → worker < l.worker → (to : ⊤) × (slice_get l.tasks.items worker ≡ Some (Work worker to));
}
