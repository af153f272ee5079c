use Rattle.std.proofs.Common.{◌≡◌, ℕ, ◌≤◌, ◌++◌, length}
use lib.ListN.{drop}
use Rattle.core.specs.Mem.Slots.{slots_items, slots_filled, slots_ptr, slots_len}
use Rattle.core.specs.Mem.Slots.Ownership.{Filled}
use Rattle.poolsteps.proofs.directory.write_all.Given as goal

abbrev pub invariant-loop-word : goal.invariant-loop-word
invariant-loop-word g l = let n : ℕ = length l.words.items in (n ≤ slots_len l.row) × (l.words.items ++ drop n (slots_items l.row) ≡ l.initial.words.items) × Filled (slots_filled l.row) n (slots_len l.row)
    × (slots_ptr l.row ≡ slots_ptr l.initial.row) × (slots_len l.row ≡ slots_len l.initial.row)

abbrev pub decreases-loop-word : goal.decreases-loop-word
decreases-loop-word g l = length l.words.items
