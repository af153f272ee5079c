-- The words that a program was called with.
use Rattle.std.specs.Prelude.{◌≡◌, ◌≢◌, [], Result, Ok, Err, String, map, string_bytes}
use Rattle.std.specs.Vec.Iter.{into_iter_items}
use Rattle.std.specs.declared.vec.IntoIter.{IntoIter}
use Rattle.std.specs.declared.alloc.Global.{Global}
use Rattle.std.specs.IoError.{error_kind}
use Rattle.std.specs.declared.io.Error.{Error}
use Rattle.std.specs.declared.io.ErrorKind.{ErrorKind}
use Rattle.std.specs.declared.io.ErrorKind.TheVariants.{OutOfMemory}
use Rattle.commandline.specs.Mistakes.{said_by}
use Rattle.commandline.specs.Wishes.{IsCallOf}
use Rattle.commandline.specs.declared.wishes.Call.{Call}
use Rattle.commandline.specs.declared.fault.TaskFault.{TaskFault}
use Rattle.commandline.specs.declared.fault.TaskFault.TheVariants as faults
use Rattle.commandline.specs.declared.mistakes.Reason.TheVariants.{NoText}

-- the fault of words that can't be had, by the error: memory was refused; or else a word is no text
abbrev pub RefusesArgs : ErrorKind → TaskFault → Type 0
RefusesArgs kind (faults.Memory refused) = kind ≡ OutOfMemory
RefusesArgs kind (faults.Words mistake) = (kind ≢ OutOfMemory) × (said_by mistake ≡ (NoText, []))
RefusesArgs kind (faults.Clap error) = ⊥

-- memory was refused for a row of words
abbrev pub WantsRow : TaskFault → Type 0
WantsRow (faults.Memory refused) = Unit {0}
WantsRow (faults.Words mistake) = ⊥
WantsRow (faults.Clap error) = ⊥

-- the call is of the words that there are, unless memory was refused for their row; or the fault is that of the error
abbrev pub ReadsArgs : Result (IntoIter (String Global) Global) Error → Result Call TaskFault → Type 0
ReadsArgs (Ok args) (Ok call) = IsCallOf (map string_bytes (into_iter_items args)) call
ReadsArgs (Ok args) (Err fault) = WantsRow fault
ReadsArgs (Err error) (Ok call) = ⊥
ReadsArgs (Err error) (Err fault) = RefusesArgs (error_kind error) fault
