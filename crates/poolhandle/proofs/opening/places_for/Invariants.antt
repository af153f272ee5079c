use Rattle.std.proofs.Common.{◌≡◌, All, length}
use Rattle.shardpool.specs.Tokens.{PoolOf}
use Rattle.poolhandle.proofs.opening.places_for.Given as goal

abbrev pub invariant-loop : goal.invariant-loop
invariant-loop l = record {
  tagged : All (λ (tag : PoolOf). tag ≡ l.pool) l.places.items;
  all : length l.places.items ≡ l.counter;
}
