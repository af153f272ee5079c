use Rattle.std.proofs.Common.{◌≡◌, ◌≤◌}
use Rattle.poolsteps.proofs.directory.Directory.new.Given as goal

abbrev pub invariant-loop : goal.invariant-loop
invariant-loop g l = (l.words.len ≡ l.counter) × (l.fn.count ≤ l.words.cap) × (l.count ≡ l.fn.count)
