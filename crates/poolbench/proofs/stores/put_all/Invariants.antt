-- In each round the note is of the store's pool.
use Rattle.shardpool.specs.Lanes.{Issued}
use Rattle.poolbench.proofs.stores.put_all.Given as goal

abbrev pub invariant-loop-key : goal.invariant-loop-key
invariant-loop-key l = Issued l.store.pool l.note
