use Rattle.std.proofs.Common.{◌≡◌, ◌≤◌, ◌*◌, take, sum_by}
use Rattle.explanations.specs.HalfRuns.{replies_by}
use Rattle.explanations.proofs.half_run.done_in.Given as goal

abbrev pub invariant-loop-turn : goal.invariant-loop-turn
invariant-loop-turn l = record {
  few : l.done ≤ 36893488147419103232 * l.turn-index;
  same : l.done ≡ sum_by (replies_by l.lane) (take l.turn-index l.turns);
}
