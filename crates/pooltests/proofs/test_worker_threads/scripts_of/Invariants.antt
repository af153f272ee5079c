-- There are as many scripts as rounds.
use Rattle.std.proofs.Common.{◌≡◌, vec_len}
use Rattle.pooltests.proofs.test_worker_threads.scripts_of.Given as goal

abbrev pub invariant-loop : goal.invariant-loop
invariant-loop g l = vec_len l.scripts ≡ l.counter
