-- Where the writes to each register stand in a script.
use Rattle.std.specs.Prelude.{◌≡◌, ◌==◌, ℕ, ◌+◌, List, [], ◌∷◌, ◌++◌, length, Option, Some, None, slice_get, if◌then◌else◌, Vec}
use Rattle.std.specs.declared.alloc.Global.{Global}
use Rattle.traces.specs.declared.script.Command.{Command}
use Rattle.traces.specs.declared.script.Command.TheVariants as commands
use Rattle.coresteps.specs.declared.progress.TheConstants.{REGISTERS}

-- this index, where the command at it writes to the register of this number
abbrev pub write_at : ℕ → ℕ → Command → List ℕ
write_at number index (commands.Write register bytes) = if register.number == number then index ∷ [] else []
write_at number index command = []

-- the indices of the writes to the register of this number, in rising order, where the first command has this index
abbrev pub write_indices : ℕ → ℕ → List Command → List ℕ
write_indices number index [] = []
write_indices number index (command ∷ more) = write_at number index command ++ write_indices number (index + 1) more

-- the bytes of a write, to whichever register; none of another command
abbrev pub bytes_of : Command → List ℕ
bytes_of (commands.Write register bytes) = bytes
bytes_of command = []

-- the bytes of the write at an index
abbrev pub bytes_if_some : Option Command → List ℕ
bytes_if_some (Some command) = bytes_of command
bytes_if_some None = []

abbrev pub bytes_at : List Command → ℕ → List ℕ
bytes_at script index = bytes_if_some (slice_get script index)

-- there is a row for each register, and it has the indices of the writes to it
pub record AreWrites (script : List Command) (rows : List (Vec ℕ Global)) : Type 0 where
  pub count : length rows ≡ REGISTERS
  pub each : (number : ℕ) (row : Vec ℕ Global) → slice_get rows number ≡ Some row → row.items ≡ write_indices number 0 script
