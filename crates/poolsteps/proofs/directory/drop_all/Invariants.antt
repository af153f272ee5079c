-- The objects from the index on are still there.
use Rattle.std.proofs.Common.{◌≡◌}
use Rattle.core.specs.Mem.Slots.{slots_filled, slots_ptr, slots_len}
use Rattle.core.specs.Mem.Slots.Ownership.{Filled}
use Rattle.poolsteps.proofs.directory.drop_all.Given as goal

abbrev pub invariant-loop-index : goal.invariant-loop-index
invariant-loop-index g l = record {
  ptr : slots_ptr l.row ≡ slots_ptr l.fn.row;
  len : slots_len l.row ≡ slots_len l.fn.row;
  filled : Filled (slots_filled l.row) l.index (slots_len l.row);
}
