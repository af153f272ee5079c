-- How the program ends: its status, and what is written on the output and as errors.
use Rattle.std.specs.Prelude.{◌≡◌, ◌≢◌, ◌⊎◌, ◌↔◌, ⊤, ℕ, Bool, true, false, List, [], ◌++◌, Option, Some, None, Result, Ok, Err, IfOk, IfErr, IsErrOf, String, codes, map, string_bytes}
use Rattle.std.specs.declared.alloc.AllocError.{AllocError}
use Rattle.std.specs.declared.alloc.Global.{Global}
use Rattle.std.specs.declared.io.Error.{Error}
use Rattle.std.specs.declared.vec.IntoIter.{IntoIter}
use Rattle.streams.specs.Saying.{Says}
use Rattle.streams.specs.declared.write_failed.Unwritable.{Unwritable}
use Rattle.streams.specs.declared.write_failed.Unwritable.TheVariants as unwritable
use Rattle.streams.specs.declared.writer.Watched.{Watched}
use Rattle.commandline.specs.Arguments.{ReadsArgs}
use Rattle.commandline.specs.CommandLines.{AreWordsOf}
use Rattle.commandline.specs.Hints.{Hints, hint_text, is_due, is_hinted, word_of}
use Rattle.commandline.specs.Mistakes.{RefusesWords, IsExplained}
use Rattle.commandline.specs.Statuses.{EndsByWords}
use Rattle.commandline.specs.Tasks.{path_of, schedule_path_of, over}
use Rattle.commandline.specs.Wishes.{command_in, is_wanted}
use Rattle.commandline.specs.declared.wishes.Call.{Call}
use Rattle.commandline.specs.declared.fault.TaskFault.{TaskFault}
use Rattle.commandline.specs.declared.tasks.Task.{Task}
use Rattle.commandline.specs.declared.tasks.Turns.{Turns}
use Rattle.poolprogram.specs.Explanations.{IsSubjectOf, Explains, IsPlain}
use Rattle.explanations.specs.Said.{IsLineOrNone}
use Rattle.poolprogram.specs.Listings.{ListsTurns, IsUnlisted}
use Rattle.poolprogram.specs.Reading.{IsFileOf, IsUnread}
use Rattle.poolprogram.specs.Tasks.{WritesTask, RefusesTask, task_status, fault_line, report_text}
use Rattle.poolprogram.specs.declared.done.Done.{Done}
use Rattle.poolprogram.specs.declared.explanation.Subject.{Subject}
use Rattle.poolprogram.specs.declared.explanation.Subject.TheVariants.{Path, Number}
use Rattle.poolprogram.specs.declared.listing.Unlisted.{Unlisted}
use Rattle.poolprogram.specs.declared.listing.Unlisted.TheVariants.{Unread, Words}
use Rattle.poolprogram.specs.declared.program.Ending.{Ending}
use Rattle.poolprogram.specs.declared.run_fault.RunFault.{RunFault}
use Rattle.poolprogram.specs.declared.run_fault.RunFault.TheVariants as runs

-- a task was done on these bytes, or refused: nothing was written, but where the output failed
pub record Does {O : Type 0} (contents : O
    → Option (List ℕ)) (task : Task) (file : List ℕ) (done : Result Done RunFault) (old new : Watched O) : Type 0 where
  pub ok : IfOk done (λ done. WritesTask task file done (contents old.inner) (contents new.inner))
  pub output : IsErrOf done runs.Output ↔ (new.failed ≡ true)
  pub refused : IfErr done (λ fault. fault ≢ runs.Output → (new ≡ old) × RefusesTask task file fault)

-- a task was done on the bytes of its file
pub record DoesFile {O : Type 0} (contents : O
    → Option (List ℕ)) (left : Option (List ℕ)) (task : Task) (file : List ℕ) (done : Result Done RunFault) (old new : Watched O) : Type 0
  where
    pub read : IsFileOf (path_of task) left file
    pub does : Does contents task file done old new

-- its file wasn't read, and nothing was written
pub record LacksFile {O : Type 0} (task : Task) (file : List ℕ) (done : Result Done RunFault) (old new : Watched O) : Type 0 where
  pub fault : RunFault
  pub unread : IsUnread (path_of task) fault
  pub done_is : done ≡ Err fault
  pub none : file ≡ []
  pub kept : new ≡ old

-- what came of a task
abbrev pub DoesTask : {O : Type 0} → (O → Option (List ℕ)) → Option (List ℕ) → Task → List ℕ → Result Done RunFault → Watched O → Watched O
    → Type 0
DoesTask contents left task file done old new = DoesFile contents left task file done old new ⊎ LacksFile task file done old new

-- the text, which is one line that can be printed, or empty, explains how a task ended that is about this, where the output can't be written
-- for this reason
pub record ExplainsEnd (subject : Subject) (file : List ℕ) (reason : Unwritable) (done : Result Done RunFault) (explained : Bool)
    (text : List ℕ) : Type 0 where
  pub all : explained ≡ true
  pub explains : Explains subject file reason done text
  pub safe : IsLineOrNone text

-- it does; or it is empty, as memory was refused for what there is to explain, and that is told
abbrev pub IsWhy : Result Subject AllocError → List ℕ → Unwritable → Result Done RunFault → Bool → List ℕ → Type 0
IsWhy (Ok subject) file reason done explained text = ExplainsEnd subject file reason done explained text
    ⊎ ((explained ≡ false) × (text ≡ []) × (IsPlain done → ⊥))
IsWhy (Err refused) file reason done explained text = (explained ≡ false) × (text ≡ [])

-- the same, where there is something to be explained; where there isn't, the text is empty
abbrev pub IsWhyIf : Option (Result Subject AllocError) → List ℕ → Unwritable → Result Done RunFault → Bool → List ℕ → Type 0
IsWhyIf (Some subject) file reason done explained text = IsWhy subject file reason done explained text
IsWhyIf None file reason done explained text = (explained ≡ true) × (text ≡ [])

-- such a text is said
pub record SaysWhy {E : Type 0} (errors : E
    → Option (List ℕ)) (subject : Option (Result Subject AllocError)) (file : List ℕ) (reason : Unwritable) (done : Result Done RunFault)
    (explained : Bool) (before after : Watched E) : Type 0 where
  pub why : List ℕ
  pub is : IsWhyIf subject file reason done explained why
  pub says : Says errors before after why

-- the line of a task's fault is said, where it has one, and such a text behind it
pub record SaysEnd {E : Type 0} (errors : E
    → Option (List ℕ)) (subject : Option (Result Subject AllocError)) (file : List ℕ) (reason : Unwritable) (done : Result Done RunFault)
    (ending : Ending) (before after : Watched E) : Type 0 where
  pub status_is : ending.status ≡ task_status done
  pub why : List ℕ
  pub is : IsWhyIf subject file reason done ending.explained why
  pub says : Says errors before after (report_text done ++ why)

-- what is explained is this task, where that is wanted, and nothing where it isn't
abbrev pub IsSubjectIf : Bool → Task → Option (Result Subject AllocError) → Type 0
IsSubjectIf true task (Some subject) = IfOk subject (IsSubjectOf task)
IsSubjectIf false task None = ⊤
IsSubjectIf wanted task subject = ⊥

-- the text explains how the task ended, by what it is about
pub record IsExplainedTask (task : Task) (file : List ℕ) (reason : Unwritable) (done : Result Done RunFault) (explained : Bool)
    (text : List ℕ) : Type 0 where
  pub subject : Result Subject AllocError
  pub about : IfOk subject (IsSubjectOf task)
  pub is : IsWhy subject file reason done explained text

-- the text explains how the task ended, where that is wanted, and is empty where it isn't
abbrev pub ExplainsIf : Bool → Task → List ℕ → Unwritable → Result Done RunFault → Bool → List ℕ → Type 0
ExplainsIf true task file reason done explained text = IsExplainedTask task file reason done explained text
ExplainsIf false task file reason done explained text = (explained ≡ true) × (text ≡ [])

-- how the program ends after a task: with its status; what it says is on the output, and the line of its fault, and behind it why, are said as errors
pub record EndsTask {O E : Type 0} (contents : O → Option (List ℕ)) (errors : E
    → Option (List ℕ)) (left : Option (List ℕ)) (task : Task) (explain : Bool)
    (old new : Watched O) (before after : Watched E) (ending : Ending) : Type 0 where
  pub file : List ℕ
  pub done : Result Done RunFault
  pub does : DoesTask contents left task file done old new
  pub status_is : ending.status ≡ task_status done
  pub why : List ℕ
  pub explains : ExplainsIf explain task file new.why done ending.explained why
  pub says : Says errors before after (report_text done ++ why)

-- what is explained is the file at this path
abbrev pub IsSubjectAt : List ℕ → Subject → Type 0
IsSubjectAt path (Path at) = string_bytes at ≡ path
IsSubjectAt path (Number number) = ⊥

-- the text explains why the file at this path wasn't read; of the output no reason is known
pub record IsWhyUnread (path : List ℕ) (fault : RunFault) (explained : Bool) (text : List ℕ) : Type 0 where
  pub subject : Result Subject AllocError
  pub about : IfOk subject (IsSubjectAt path)
  pub is : IsWhy subject [] unwritable.Other (Err fault) explained text

-- it does, where that is wanted, and is empty where it isn't
abbrev pub WhyUnread : Bool → List ℕ → RunFault → Bool → List ℕ → Type 0
WhyUnread true path fault explained text = IsWhyUnread path fault explained text
WhyUnread false path fault explained text = (explained ≡ true) × (text ≡ [])

-- how the program ends where the file of turns at this path wasn't read: with the line of its fault, and where that is wanted why
pub record EndsUnread {E : Type 0} (errors : E → Option (List ℕ)) (path : List ℕ) (fault : RunFault) (explain : Bool)
    (before after : Watched E) (ending : Ending) : Type 0 where
  pub status_is : ending.status ≡ 1
  pub why : List ℕ
  pub explains : WhyUnread explain path fault ending.explained why
  pub says : Says errors before after (fault_line fault ++ why)

-- how the program ends that has no turns
abbrev pub EndsUnlisted : {O E : Type 0} → (E → Option (List ℕ)) → List ℕ → Unlisted → Bool → Watched O → Watched O → Watched E → Watched E
    → Ending → Type 0
EndsUnlisted errors path (Unread fault) explain old new before after ending = (new ≡ old)
    × EndsUnread errors path fault explain before after ending
EndsUnlisted errors path (Words fault) explain old new before after ending =
    (ending.explained ≡ true) × EndsByWords errors fault explain old new before after ending.status

-- how the program ends after a task whose turns are in the file at this path: they are read, and then it is done
pub record EndsListed {O E : Type 0} (contents : O → Option (List ℕ)) (errors : E
    → Option (List ℕ)) (left : Option (List ℕ)) (path : List ℕ) (task : Task) (explain : Bool)
    (old new : Watched O) (before after : Watched E) (ending : Ending) : Type 0 where
  pub turns : Turns
  pub reads : ListsTurns path left turns
  -- what is left of the input is as before, unless the turns are in it
  pub rest : Option (List ℕ)
  pub keeps : path ≢ codes "-" → rest ≡ left
  pub ends : EndsTask contents errors rest (over turns task) explain old new before after ending

-- how the program ends where there are no turns in the file at this path
pub record EndsWithout {O E : Type 0} (errors : E → Option (List ℕ)) (left : Option (List ℕ)) (path : List ℕ) (explain : Bool)
    (old new : Watched O) (before after : Watched E) (ending : Ending) : Type 0 where
  pub why : Unlisted
  pub is : IsUnlisted path left why
  pub ends : EndsUnlisted errors path why explain old new before after ending

-- how the program ends after a task, by the path of the file that its turns are in
abbrev pub EndsFor : {O E : Type 0} → (O → Option (List ℕ)) → (E → Option (List ℕ)) → Option (List ℕ) → Option (List ℕ) → Task → Bool
    → Watched O → Watched O → Watched E → Watched E → Ending → Type 0
EndsFor contents errors left None task explain old new before after ending = EndsTask contents errors left task explain old new before
    after ending
EndsFor contents errors left (Some path) task explain old new before after ending =
    EndsListed contents errors left path task explain old new before after ending
    ⊎ EndsWithout errors left path explain old new before after ending

-- how the program ends, by what is asked for
abbrev pub EndsRequest : {O E : Type 0} → (O → Option (List ℕ)) → (E → Option (List ℕ)) → Option (List ℕ) → Result Task TaskFault → Bool
    → Watched O → Watched O → Watched E → Watched E → Ending → Type 0
EndsRequest contents errors left (Ok task) explain old new before after ending = EndsFor contents errors left (schedule_path_of task) task
    explain old new before after ending
EndsRequest contents errors left (Err fault) explain old new before after ending =
    (ending.explained ≡ true) × EndsByWords errors fault explain old new before after ending.status

-- the path of the file of a task that is asked for
abbrev pub asked_path : Result Task TaskFault → Option (List ℕ)
asked_path (Ok task) = path_of task
asked_path (Err fault) = None

-- how the program ends that was called so, with hints or not: what the words ask for is done, and a hint given behind a mistake
pub record EndsCall {O E : Type 0} (contents : O → Option (List ℕ)) (errors : E
    → Option (List ℕ)) (left : Option (List ℕ)) (call : Call) (hints : Bool)
    (old new : Watched O) (before after : Watched E) (ending : Ending) : Type 0 where
  pub task : Result Task TaskFault
  pub flag : Bool
  pub asked : IfOk task (AreWordsOf (map string_bytes call.words.items))
  pub refused : IfErr task (RefusesWords (map string_bytes call.words.items))
  pub flagged : IsExplained (map string_bytes call.words.items) flag task
  pub middle : Watched E
  pub ends : EndsRequest contents errors left task (is_wanted call.wish flag hints) old new before middle ending
  pub hinted : Hints errors (is_hinted hints (is_due task) (is_wanted call.wish flag hints) ending.status)
      (hint_text (codes "poolrun") (command_in (map string_bytes call.words.items))
      (word_of (map string_bytes call.words.items) (asked_path task))) middle after

-- how the program ends, by what the words were read as
abbrev pub EndsRead : {O E : Type 0} → (O → Option (List ℕ)) → (E → Option (List ℕ)) → Option (List ℕ) → Result Call TaskFault → Bool
    → Watched O → Watched O → Watched E → Watched E → Ending → Type 0
EndsRead contents errors left (Ok call) hints old new before after ending = EndsCall contents errors left call hints old new before after
    ending
EndsRead contents errors left (Err fault) hints old new before after ending =
    (ending.explained ≡ true) × EndsByWords errors fault hints old new before after ending.status

-- how the program ends, by what it was called with
pub record EndsProgram {O E : Type 0} (contents : O → Option (List ℕ)) (errors : E
    → Option (List ℕ)) (left : Option (List ℕ)) (args : Result (IntoIter (String Global) Global) Error)
    (hints : Bool) (old new : Watched O) (before after : Watched E) (ending : Ending) : Type 0 where
  pub call : Result Call TaskFault
  pub read : ReadsArgs args call
  pub ends : EndsRead contents errors left call hints old new before after ending
