use Rattle.std.proofs.Common.{◌≡◌, vec_len}
use Rattle.seqpool.proofs.Fresh.{AreFresh}
use Rattle.seqpool.proofs.pool.SeqPool.new.Given as goal

abbrev pub invariant-loop-position : goal.invariant-loop-position
invariant-loop-position l = record { len : vec_len l.rows ≡ l.position; rows : AreFresh l.shard_places l.rows.items }
