-- The places so far are marked, and the word leads to the others.
use Rattle.std.proofs.Common.{ℕ, List}
use Rattle.core.specs.Mem.Slots.{slots_items}
use Rattle.poolsteps.specs.Layout.{words_in}
use Rattle.shardpool.specs.Marks.{IsThread}
use Rattle.shardpool.proofs.count.Walks.{walk_length, Walked}
use Rattle.shardpool.proofs.census.mark_thread.Given as goal

abbrev pub invariant-loop-word : goal.invariant-loop-word
invariant-loop-word l = (thread : List ℕ) → IsThread l.shape (slots_items l.initial.words) l.shard l.initial.word thread → Walked l.shape l.shard l.initial.words thread l.word l.words

abbrev pub decreases-loop-word : goal.decreases-loop-word
decreases-loop-word l = walk_length (words_in l.shape (slots_items l.initial.words)).link l.shard 16777216 l.word
