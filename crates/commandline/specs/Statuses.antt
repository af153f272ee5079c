-- How a program ends whose words ask for nothing.
use Rattle.std.specs.Prelude.{◌≡◌, ◌≢◌, ◌⊎◌, ℕ, All, Bool, true, false, List, Option, codes}
use Rattle.clap.specs.Values.{kind_of}
use Rattle.clap.specs.declared.error.kind.ErrorKind.{ErrorKind}
use Rattle.clap.specs.declared.error.kind.ErrorKind.TheVariants.{OutOfMemory, DisplayHelp, DisplayVersion}
use Rattle.streams.specs.Saying.{Says}
use Rattle.streams.specs.Shown.{lines_text, IsPrintableOrEnd}
use Rattle.streams.specs.declared.writer.Watched.{Watched}
use Rattle.commandline.specs.MistakeTexts.{words_text}
use Rattle.commandline.specs.declared.fault.TaskFault.{TaskFault}
use Rattle.commandline.specs.declared.fault.TaskFault.TheVariants as faults

-- clap says that memory was refused
abbrev pub IsRefusal : ErrorKind → Type 0
IsRefusal kind = kind ≡ OutOfMemory

-- help or the version was asked for
abbrev pub IsHelp : ErrorKind → Type 0
IsHelp kind = (kind ≡ DisplayHelp) ⊎ (kind ≡ DisplayVersion)

-- clap refuses the words: it is neither help nor a want of memory
abbrev pub IsMistake : ErrorKind → Type 0
IsMistake kind = (kind ≢ OutOfMemory) × (kind ≢ DisplayHelp) × (kind ≢ DisplayVersion)

-- the line of a want of memory
abbrev pub memory_line : List ℕ
memory_line = codes "fault 43 Memory\n"

-- the line of an output that can't be written
abbrev pub output_line : List ℕ
output_line = codes "fault 42 Output\n"

-- memory was refused for the words: the status is 1, and the fault's line is said
pub record EndsByMemory {E : Type 0} (contents : E → Option (List ℕ)) (before after : Watched E) (status : ℕ) : Type 0 where
  pub status_is : status ≡ 1
  pub says : Says contents before after memory_line

-- help was written: the status is 0, and no error is said; or the output failed, and that is a fault
pub record EndsByHelp {E : Type 0} (contents : E → Option (List ℕ)) (failed : Bool) (before after : Watched E) (status : ℕ) : Type 0 where
  pub written : failed ≡ false → (status ≡ 0) × (after ≡ before)
  pub refused : failed ≡ true → (status ≡ 1) × Says contents before after output_line

-- a text of clap's was said in lines that can be printed, and the status is 2; or memory was refused for it
pub record SaysClap {E : Type 0} (contents : E → Option (List ℕ)) (before after : Watched E) (status : ℕ) : Type 0 where
  pub text : List ℕ
  pub says : Says contents before after (lines_text text)
  pub safe : All IsPrintableOrEnd (lines_text text)
  pub status_is : status ≡ 2

abbrev pub ReportsClap : {E : Type 0} → (E → Option (List ℕ)) → Watched E → Watched E → ℕ → Type 0
ReportsClap contents before after status = SaysClap contents before after status ⊎ EndsByMemory contents before after status

-- how the program ends by what clap says: nothing is written on the output but help, and what clap says of a mistake is clap's
pub record EndsByClap {O E : Type 0} (contents : E
    → Option (List ℕ)) (kind : ErrorKind) (old new : Watched O) (before after : Watched E) (status : ℕ) : Type 0 where
  pub memory : IsRefusal kind → (new ≡ old) × EndsByMemory contents before after status
  pub help : IsHelp kind → EndsByHelp contents new.failed before after status
  pub mistake : IsMistake kind → (new ≡ old) × ReportsClap contents before after status

-- how the program ends whose words ask for nothing, by its status, and by what is written on the output and as errors
abbrev pub EndsByWords : {O E : Type 0} → (E → Option (List ℕ)) → TaskFault → Bool → Watched O → Watched O → Watched E → Watched E → ℕ
    → Type 0
EndsByWords contents (faults.Clap error) explain old new before after status = EndsByClap contents (kind_of error) old new before after
    status
EndsByWords contents (faults.Words mistake) explain old new before after status =
    (status ≡ 2) × (new ≡ old) × Says contents before after (words_text explain mistake)
EndsByWords contents (faults.Memory refused) explain old new before after status = (new ≡ old) × EndsByMemory contents before after status
