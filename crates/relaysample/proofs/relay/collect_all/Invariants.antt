-- What is held is shown.
use Rattle.relaysample.specs.Held.{AreShown}
use Rattle.relaysample.proofs.relay.collect_all.Given as goal

abbrev pub invariant-loop : goal.invariant-loop
invariant-loop g l = AreShown l.collector.lender.lane.book.seen l.collector.held.items
