-- The places of the rows so far are marked.
use Rattle.core.specs.Mem.Slots.{slots_items}
use Rattle.poolsteps.specs.Layout.{words_in}
use Rattle.shardpool.specs.Marks.{Blanks, row_given}
use Rattle.shardpool.proofs.census.mark_rows.Given as goal

abbrev pub invariant-loop-row : goal.invariant-loop-row
invariant-loop-row l = Blanks l.shape (row_given l.shard ((words_in l.shape (slots_items l.initial.words)).bits l.shard) l.first l.row) l.initial.words l.words
