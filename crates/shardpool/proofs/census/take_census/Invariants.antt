-- The shards of the states so far are marked and counted.
use Rattle.std.proofs.Common.{◌≡◌, ◌≤◌, ◌++◌, List, length}
use Rattle.std.specs.List.{All}
use Rattle.std.specs.Vec.{vec_capacity}
use Rattle.std.specs.Vec.Iter.{into_iter_items, into_iter_len}
use Rattle.core.specs.Mem.Slots.{slots_items}
use Rattle.seqpool.specs.declared.act.Act.{Act}
use Rattle.poolsteps.specs.Layout.{words_in}
use Rattle.shardpool.specs.Tokens.{LaneOf}
use Rattle.shardpool.specs.Closings.{AreLast}
use Rattle.shardpool.proofs.count.Rounds.{SoFar, SlotsSoFar}
use Rattle.shardpool.proofs.census.take_census.Given as goal

abbrev pub invariant-loop-state : goal.invariant-loop-state
invariant-loop-state g l = record {
  so_far : (history : List Act) (lanes : List LaneOf) → AreLast l.shape history lanes l.fn.states.items (words_in l.shape (slots_items l.initial.words))
      → SoFar l.shape history lanes l.initial.words (length l.yielded) l.words l.census;
  slots : (history : List Act) (lanes : List LaneOf) → AreLast l.shape history lanes l.fn.states.items (words_in l.shape (slots_items l.initial.words))
      → SlotsSoFar l.shape history lanes (length l.yielded) l.initial.slots l.slots;
  states : l.yielded ++ into_iter_items l.state-iterator ≡ l.fn.states.items;
  rights : All (λ objects. objects.directory ≡ l.directory.ptr) l.rights.items;
  kept : length l.rights.items ≡ length l.yielded;
  room : length l.fn.states.items ≤ vec_capacity l.rights;
  rest : into_iter_len l.state-iterator ≡ length (into_iter_items l.state-iterator);
}
