-- The places of the bits that are gone are marked, and those of the word are left.
use Rattle.std.proofs.Common.{◌≡◌, List, ℕ, ◌++◌}
use Rattle.keybits.specs.Rows.{set_places}
use Rattle.shardpool.specs.Marks.{Blanks}
use Rattle.shardpool.proofs.census.mark_row.Given as goal

abbrev pub invariant-loop-word : goal.invariant-loop-word
invariant-loop-word l = (done : List ℕ) × (done ++ set_places l.shard l.row l.word ≡ set_places l.shard l.row l.initial.word) × Blanks l.shape done l.initial.words l.words

abbrev pub decreases-loop-word : goal.decreases-loop-word
decreases-loop-word l = l.word
