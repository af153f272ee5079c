-- In each round the note is of the store's pool.
use Rattle.shardpool.specs.Lanes.{Issued}
use Rattle.poolbench.proofs.stores.look_at_each.Given as goal

abbrev pub invariant-loop-round : goal.invariant-loop-round
invariant-loop-round l = Issued l.store.pool l.note
