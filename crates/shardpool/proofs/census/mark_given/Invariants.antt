-- The places of the pages so far are marked.
use Rattle.core.specs.Mem.Slots.{slots_items}
use Rattle.poolsteps.specs.Layout.{words_in}
use Rattle.shardpool.specs.Marks.{Blanks, pages_given}
use Rattle.shardpool.proofs.census.mark_given.Given as goal

abbrev pub invariant-loop-page : goal.invariant-loop-page
invariant-loop-page l = Blanks l.shape (pages_given l.shape l.shard ((words_in l.shape (slots_items l.initial.words)).bits l.shard) l.page) l.initial.words l.words
