-- The places of the bits that are gone are on the list, and those of the word are left.
use Rattle.std.proofs.Common.{◌≡◌, ◌+◌, ◌*◌, ℕ, true, List, [], ◌++◌, length}
use Rattle.keybits.specs.Rows.{set_places}
use Rattle.seqpool.specs.Pool.{has}
use Rattle.shardpool.specs.Tokens.{FillingOf}
use Rattle.shardpool.specs.Lanes.{Made}
use Rattle.shardpool.specs.Gathers.{IsGathered, Brings}
use Rattle.shardpool.proofs.pool.Pool.gather.Given as goal

abbrev pub invariant-loop-word : goal.invariant-loop-word
invariant-loop-word g l = record {
  done : List ℕ;
  split : done ++ set_places l.number l.row l.word ≡ set_places l.number l.row l.initial.word;
  counts : length done ≡ l.count;
  brings : Brings [] done l.initial.lane l.lane;
  left : (place : ℕ) → has (set_places l.number l.row l.word) place ≡ true → IsGathered l.lane place;
  steps : l.lane.book.steps ≡ l.initial.lane.book.steps;
  looks : l.lane.book.looks ≡ l.initial.lane.book.looks + 2 * l.count;
  fillings : (filling : FillingOf g.row.T.Denot) → Made l.initial.lane filling → Made l.lane filling;
}

abbrev pub decreases-loop-word : goal.decreases-loop-word
decreases-loop-word g l = l.word
