use Rattle.std.proofs.Common.{ℕ, ◌≡◌, ◌<◌, Some, IsOk, slice_get}
use Rattle.workers.specs.declared.jobs.Done.{Done}
use Rattle.poolprogram.proofs.texts.all_reported.Given as goal

-- no report so far was refused
abbrev pub invariant-loop-done : goal.invariant-loop-done
invariant-loop-done l = (index : ℕ) (done : Done) → index < l.done-index → slice_get l.dones index ≡ Some done → IsOk done.report
