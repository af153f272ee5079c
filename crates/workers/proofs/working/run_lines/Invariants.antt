-- The lines so far were run, as the gate let each pass, and the row has room for the replies of the others.
use Rattle.std.proofs.Common.{ℕ, length, true, min, ◌-◌, ◌≡◌, ◌<◌, ◌≤◌}
use Rattle.std.specs.Vec.{vec_capacity}
use Rattle.workers.specs.Tidy.{desk}
use Rattle.workers.specs.Steps.{RunsOn}
use Rattle.workers.proofs.working.run_lines.Given as goal

abbrev pub invariant-loop-ran : goal.invariant-loop-ran
invariant-loop-ran g l = record {
  low : l.ran ≤ length l.commands;
  count : length l.replies.items ≡ l.ran;
  room : length l.commands ≤ vec_capacity l.replies;
  passed : (line : ℕ) → line < l.ran → g.G.Gate.says l.gate l.fn.lane.number (min line 4294967295) true;
  runs : RunsOn l.pool (desk l.fn.lane l.fn.registers) l.commands l.ran l.replies.items (desk l.lane l.registers);
}

abbrev pub decreases-loop-ran : goal.decreases-loop-ran
decreases-loop-ran g l = length l.commands - l.ran
