-- There is a turn for each thread so far.
use Rattle.std.proofs.Common.{◌≡◌, vec_len}
use Rattle.relaysample.proofs.relay.Relay.new.Given as goal

abbrev pub invariant-loop-thread : goal.invariant-loop-thread
invariant-loop-thread g l = vec_len l.turns ≡ l.thread
