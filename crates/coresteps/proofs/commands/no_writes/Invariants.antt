-- Each row so far is empty.
use Rattle.std.proofs.Common.{◌≡◌, length}
use Rattle.coresteps.proofs.WriteLemmas.{AreEmpty}
use Rattle.coresteps.proofs.commands.no_writes.Given as goal

abbrev pub invariant-loop : goal.invariant-loop
invariant-loop l = (length l.rows.items ≡ l.counter) × AreEmpty l.rows.items
