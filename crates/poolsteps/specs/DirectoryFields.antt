-- What holds of the fields of a directory. No public clause cites this module.
use Rattle.std.specs.Prelude.{◌≡◌, ℕ, ◌+◌, length}
use Rattle.core.specs.Mem.Slots.{lease_ptr, lease_len}
use Rattle.core.specs.declared.slots.Lease.{Lease}
use Rattle.std.specs.declared.alloc.Global.{Global}
use Rattle.poolsteps.specs.declared.memory.Run.{Run}

pub record IsDirectory {T : Type 0} (run : Run T) (lease : Lease T Global) (count : ℕ) : Type 0 where
  pub rest : run.first + length run.items ≡ count
  pub total : run.total ≡ count
  pub leased : lease_ptr lease ≡ run.ptr
  pub long : lease_len lease ≡ count
