-- Why a task ended as it did, in words.
use Rattle.std.specs.Prelude.{◌≡◌, ℕ, Bool, true, false, List, [], Option, Some, None, Result, Ok, Err, ◌++◌, decimal, codes, string_bytes}
use Rattle.commandline.specs.Tasks.{path_of}
use Rattle.commandline.specs.declared.tasks.Task.{Task}
use Rattle.commandline.specs.declared.tasks.Task.TheVariants as tasks
use Rattle.streams.specs.Shown.{line_text}
use Rattle.streams.specs.declared.reading.Unreadable.{Unreadable}
use Rattle.streams.specs.declared.write_failed.Unwritable.{Unwritable}
use Rattle.shortening.specs.declared.fault.Unshortened.{Unshortened}
use Rattle.shortening.specs.declared.fault.Unshortened.TheVariants as shortenings
use Rattle.explanations.specs.ActsTexts.{acts_explanation, ExplainsCheck}
use Rattle.explanations.specs.Plain.{file_line, output_line, no_key_line}
use Rattle.explanations.specs.ScriptTexts.{ExplainsScript}
use Rattle.poolprogram.specs.HalfRuns.{half_line}
use Rattle.poolprogram.specs.declared.done.Done.{Done}
use Rattle.poolprogram.specs.declared.done.Done.TheVariants.{Well, Badly, Early}
use Rattle.poolprogram.specs.declared.done.Done.TheVariants as dones
use Rattle.poolprogram.specs.declared.explanation.Subject.{Subject}
use Rattle.poolprogram.specs.declared.explanation.Subject.TheVariants.{Path, Number}
use Rattle.poolprogram.specs.declared.run_fault.RunFault.{RunFault}
use Rattle.poolprogram.specs.declared.run_fault.RunFault.TheVariants as runs

-- the number that a task is about, where it is about one
abbrev pub number_of_task : Task → Option ℕ
number_of_task (tasks.Replay file turns stop acts) = None
number_of_task (tasks.Schedule file turns stop) = None
number_of_task (tasks.Shorten file turns stop word) = None
number_of_task (tasks.Outcomes file most count) = None
number_of_task (tasks.Check file) = None
number_of_task (tasks.Run file) = None
number_of_task (tasks.Key number) = Some number
number_of_task (tasks.Word word) = Some word

-- a task is about this: a file, or a number
abbrev pub IsSubjectOf : Task → Subject → Type 0
IsSubjectOf task (Path path) = path_of task ≡ Some (string_bytes path)
IsSubjectOf task (Number number) = number_of_task task ≡ Some number

-- the text explains why a file wasn't read; it is empty for a task that is about none
abbrev pub ExplainsUnread : Subject → Unreadable → List ℕ → Type 0
ExplainsUnread (Path path) why text = text ≡ file_line (string_bytes path) why
ExplainsUnread (Number number) why text = text ≡ []

-- why a schedule isn't shortened whose replay lacks the word, decoded or not
abbrev pub absent_told : Bool → List ℕ
absent_told false = codes "the word of --until stands in no line of the replay, neither with --acts nor without"
absent_told true = codes "the word of --until stands in no line of the replay, as poolview words shows it"

-- why a schedule isn't shortened
abbrev pub shortening_told : Unshortened → List ℕ
shortening_told shortenings.Fails = absent_told false
shortening_told shortenings.Limit = codes "100000000 entries were replayed, and more can perhaps be left out: cut the schedule before"
shortening_told shortenings.Memory = codes "memory was refused"

-- why outcomes aren't listed: so many states were found
abbrev pub states_told : ℕ → List ℕ
states_told reached = decimal reached ++ codes " states were found, more than --most allows: give a larger --most, or shorter scripts"

-- what is said of a schedule that was shortened by as many replays as may be
abbrev pub early_told : List ℕ
early_told = codes "all replays of --tries were made, and more can perhaps be left out"

-- the text explains a fault; that of the output by this reason
abbrev pub ExplainsFault : Subject → List ℕ → Unwritable → RunFault → List ℕ → Type 0
ExplainsFault subject file why (runs.Read refusal) text = ExplainsScript file refusal text
ExplainsFault subject file why (runs.Acts refusal) text = text ≡ acts_explanation file refusal
ExplainsFault subject file why (runs.File unread) text = ExplainsUnread subject unread text
ExplainsFault subject file why runs.Output text = text ≡ output_line why
ExplainsFault subject file why (runs.Core fault) text = text ≡ line_text (codes "memory was refused")
ExplainsFault subject file why (runs.Absent decoded) text = text ≡ line_text (absent_told decoded)
ExplainsFault subject file why (runs.TooMany reached) text = text ≡ line_text (states_told reached)
ExplainsFault subject file why (runs.Shortening fault) text = text ≡ line_text (shortening_told fault)
ExplainsFault subject file why runs.Open text = text ≡ line_text (codes "memory was refused")
ExplainsFault subject file why runs.Memory text = text ≡ line_text (codes "memory was refused")

-- the text explains how a task ended that is about this, where the output can't be written for this reason; of a replay that was made it
-- tells what that left undone, and of a schedule that was shortened early that more can perhaps be left out
abbrev pub Explains : Subject → List ℕ → Unwritable → Result Done RunFault → List ℕ → Type 0
Explains subject file why (Err fault) text = ExplainsFault subject file why fault text
Explains subject file why (Ok Well) text = text ≡ []
Explains subject file why (Ok (dones.Replayed made)) text = text ≡ half_line made
Explains (Path path) file why (Ok Badly) text = ExplainsCheck file text
Explains (Number number) file why (Ok Badly) text = text ≡ no_key_line number
Explains subject file why (Ok Early) text = text ≡ line_text early_told

-- there is nothing to explain: the task is no replay, and went well
abbrev pub IsPlain : Result Done RunFault → Type 0
IsPlain done = done ≡ Ok Well
