-- What a task of the command line writes, with what it is refused, and how the program ends after it.
use Rattle.std.specs.Prelude.{◌≡◌, ℕ, Bool, true, false, List, [], ◌++◌, Option, Result, Ok, Err, decimal, codes}
use Rattle.std.specs.Io.KnownBytes.{Appends}
use Rattle.commandline.specs.declared.tasks.Task.{Task}
use Rattle.commandline.specs.declared.tasks.Task.TheVariants.{Replay, Schedule, Shorten, Outcomes, Check, Run, Key, Word}
use Rattle.poolprogram.specs.Turns.{WritesTurns, WritesSchedule, RefusesTurns, RefusesListing}
use Rattle.poolprogram.specs.Shortenings.{WritesShortening, RefusesShortest}
use Rattle.poolprogram.specs.Outcomes.{WritesOutcomes, RefusesOutcomes}
use Rattle.poolprogram.specs.Checks.{WritesVerdict, RefusesActs}
use Rattle.poolprogram.specs.Runs.{WritesRun, RefusesRun}
use Rattle.poolprogram.specs.KeyTexts.{WritesKey}
use Rattle.poolprogram.specs.WordTexts.{word_line}
use Rattle.poolprogram.specs.RunFaults.{run_fault_number, run_fault_name}
use Rattle.poolprogram.specs.declared.done.Done.{Done}
use Rattle.poolprogram.specs.declared.done.Done.TheVariants.{Well, Badly, Early}
use Rattle.poolprogram.specs.declared.done.Done.TheVariants as dones
use Rattle.poolprogram.specs.declared.replayed.Replayed.{Replayed}
use Rattle.poolprogram.specs.declared.run_fault.RunFault.{RunFault}
use Rattle.poolprogram.specs.declared.run_fault.RunFault.TheVariants as runs

-- all is well, or it isn't
abbrev pub done_by : Bool → Done
done_by true = Well
done_by false = Badly

-- no entry more can be left out of a schedule, or that wasn't tried
abbrev pub done_short : Bool → Done
done_short true = Well
done_short false = Early

-- known bytes grow by what the task says of the bytes of its file, or of its number; and it is told which replay was made, or whether all is well: what is said of a schedule and a run are, acts where they are legal, a number where it is a key's, each lifecycle word; and whether a schedule is as short as can be
abbrev pub WritesTask : Task → List ℕ → Done → Option (List ℕ) → Option (List ℕ) → Type 0
WritesTask (Replay path turns stop acts) file done old new =
    (made : Replayed) × (done ≡ dones.Replayed made) × WritesTurns file turns stop acts made old new
WritesTask (Schedule path turns stop) file done old new = (done ≡ Well) × WritesSchedule file turns stop old new
WritesTask (Shorten path turns stop search) file done old new =
    (least : Bool) × (done ≡ done_short least) × WritesShortening file turns stop search least old new
WritesTask (Outcomes path most count) file done old new = (done ≡ Well) × WritesOutcomes file most count old new
WritesTask (Check path) file done old new = (legal : Bool) × (done ≡ done_by legal) × WritesVerdict file legal old new
WritesTask (Run path) file done old new = (done ≡ Well) × WritesRun file old new
WritesTask (Key number) file done old new = (known : Bool) × (done ≡ done_by known) × WritesKey number known old new
WritesTask (Word word) file done old new = (done ≡ Well) × Appends old new (word_line word)

-- the task is refused with this fault: as that of its kind; for a number memory was refused
abbrev pub RefusesTask : Task → List ℕ → RunFault → Type 0
RefusesTask (Replay path turns stop acts) file fault = RefusesTurns file turns stop fault
RefusesTask (Schedule path turns stop) file fault = RefusesListing file turns fault
RefusesTask (Shorten path turns stop search) file fault = RefusesShortest file turns stop search fault
RefusesTask (Outcomes path most count) file fault = RefusesOutcomes file most fault
RefusesTask (Check path) file fault = RefusesActs file fault
RefusesTask (Run path) file fault = RefusesRun file fault
RefusesTask (Key number) file fault = fault ≡ runs.Memory
RefusesTask (Word word) file fault = fault ≡ runs.Memory

-- the exit status after a task: 0 just where it was done and all is well
abbrev pub task_status : Result Done RunFault → ℕ
task_status (Ok Well) = 0
task_status (Ok Early) = 0
task_status (Ok (dones.Replayed made)) = 0
task_status (Ok Badly) = 1
task_status (Err fault) = 1

-- the line of a fault
abbrev pub fault_line : RunFault → List ℕ
fault_line fault = codes "fault " ++ decimal (run_fault_number fault) ++ codes " " ++ run_fault_name fault ++ codes "\n"

-- what is reported of a task: the line of its fault, where it has one
abbrev pub report_text : Result Done RunFault → List ℕ
report_text (Ok done) = []
report_text (Err fault) = fault_line fault
