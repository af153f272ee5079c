-- Which mistake there is in words that clap takes, where they are no task: a reason, and the text that it is about.
use Rattle.std.specs.Prelude.{◌≡◌, ◌&&◌, ℕ, Bool, true, false, List, [], Option, Some, None, Result, Ok, Err, IfOk, IfErr, codes}
use Rattle.clap.specs.Words.{Row, first_of, subcommand_of}
use Rattle.commandline.specs.Readings.{flag_of, long_number, turn_count, try_count, key_number, schedule_file, are_both_input}
use Rattle.commandline.specs.CommandLines.{command_line, is_flagged, IsTaskOf, IsTaskOfNone}
use Rattle.commandline.specs.declared.fault.TaskFault.{TaskFault}
use Rattle.commandline.specs.declared.fault.TaskFault.TheVariants as faults
use Rattle.commandline.specs.declared.mistakes.Mistake.{Mistake}
use Rattle.commandline.specs.declared.mistakes.Reason.{Reason}
use Rattle.commandline.specs.declared.mistakes.Reason.TheVariants.{NoTurns, SeedAlone, TurnsAlone, ScheduleAndMore, BadSchedule, BadFile, InputTwice, TwoTexts, BadSeed, BadTurns, BadStop, BadTries, BadMost, BadNumber, BadHexadecimal, Missing}
use Rattle.commandline.specs.declared.requests.Request.{Request}
use Rattle.commandline.specs.declared.tasks.Task.{Task}
use Rattle.schedules.specs.Schedules.{schedule_of, stop_of, joined, joined_schedule}

-- a reason, and the text that it is about
abbrev pub Wrong : Type 0
Wrong = Reason × List ℕ

-- what is wrong with a text that must stand for something
abbrev pub unless_read : {T : Type 0} → Option T → Reason → List ℕ → Option Wrong
unless_read (Some value) reason text = None
unless_read None reason text = Some (reason, text)

-- the first of two
abbrev pub first_wrong : Option Wrong → Option Wrong → Option Wrong
first_wrong (Some wrong) later = Some wrong
first_wrong None later = later

-- what is wrong with the text of a schedule, which may name the file that it is in
abbrev pub wrong_schedule : Option (List ℕ) → List ℕ → Option Wrong
wrong_schedule (Some path) text = None
wrong_schedule None text = unless_read (schedule_of text) BadSchedule text

-- what is wrong with the turns, by the texts of a schedule, a seed and a number of turns
abbrev pub wrong_turns : Option (List ℕ) → Option (List ℕ) → Option (List ℕ) → Option Wrong
wrong_turns None None None = Some (NoTurns, [])
wrong_turns None (Some seed) None = Some (SeedAlone, seed)
wrong_turns None None (Some turns) = Some (TurnsAlone, turns)
wrong_turns None (Some seed) (Some turns) = first_wrong (unless_read (long_number seed) BadSeed seed)
    (unless_read (turn_count turns) BadTurns turns)
wrong_turns (Some schedule) None None = wrong_schedule (schedule_file schedule) schedule
wrong_turns (Some schedule) seed turns = Some (ScheduleAndMore, schedule)

-- what is wrong with the text of a stop
abbrev pub wrong_stop : Option (List ℕ) → Option Wrong
wrong_stop None = None
wrong_stop (Some text) = unless_read (stop_of text) BadStop text

-- the reason for a number that is none, hexadecimal or not
abbrev pub number_reason : Bool → Reason
number_reason true = BadHexadecimal
number_reason false = BadNumber

-- what is wrong with the text of a number, hexadecimal or not
abbrev pub wrong_number : Bool → Option (List ℕ) → Option Wrong
wrong_number hex None = Some (Missing, [])
wrong_number hex (Some text) = unless_read (key_number hex text) (number_reason hex) text

-- an argument is missing
abbrev pub wrong_file : Option (List ℕ) → Option Wrong
wrong_file None = Some (Missing, [])
wrong_file (Some text) = None

-- a mistake that there is where this holds
abbrev pub wrong_if : Bool → Reason → Option Wrong
wrong_if true reason = Some (reason, [])
wrong_if false reason = None

-- what is wrong with the matches of a replay: its file, then its turns, then its stop, then both of standard input
abbrev pub wrong_given : List Row → Option Wrong
wrong_given rows = first_wrong (wrong_file (first_of (codes "file") rows))
    (first_wrong (wrong_turns (first_of (codes "schedule") rows) (first_of (codes "seed") rows) (first_of (codes "turns") rows))
    (first_wrong (wrong_stop (first_of (codes "stop") rows))
    (wrong_if (are_both_input (first_of (codes "file") rows) (first_of (codes "schedule") rows)) InputTwice)))

-- what is wrong with the matches of `replay`: what is wrong with a replay, then that two texts are wanted
abbrev pub wrong_replay : List Row → Option Wrong
wrong_replay rows = first_wrong (wrong_given rows) (wrong_if (is_flagged (codes "print-schedule") rows
    && is_flagged (codes "acts") rows) TwoTexts)

-- what is wrong with the text of a number of replays
abbrev pub wrong_tries : Option (List ℕ) → Option Wrong
wrong_tries None = None
wrong_tries (Some text) = unless_read (try_count text) BadTries text

-- what is wrong with the matches of `shorten`: what is wrong with a replay, then with its word, then with its number of replays
abbrev pub wrong_shorten : List Row → Option Wrong
wrong_shorten rows = first_wrong (wrong_given rows)
    (first_wrong (wrong_file (first_of (codes "until") rows)) (wrong_tries (first_of (codes "tries") rows)))

-- what is wrong with the text of a number of states
abbrev pub wrong_most : Option (List ℕ) → Option Wrong
wrong_most None = None
wrong_most (Some text) = unless_read (try_count text) BadMost text

-- what is wrong with the matches of `outcomes`: with its file, then with its number of states
abbrev pub wrong_outcomes : List Row → Option Wrong
wrong_outcomes rows = first_wrong (wrong_file (first_of (codes "file") rows)) (wrong_most (first_of (codes "most") rows))

-- what is wrong with the bytes of a schedule's file
abbrev pub wrong_listed : List ℕ → Option Wrong
wrong_listed bytes = unless_read (joined_schedule (joined bytes)) BadFile (joined bytes)

-- what is wrong with the matches of `key`
abbrev pub wrong_key : List Row → Option Wrong
wrong_key rows = wrong_number (flag_of (first_of (codes "hex") rows)) (first_of (codes "number") rows)

-- this is wrong with the matches of the subcommand with this name
pub record IsWrong (name : List ℕ) (rows : List Row) (wrong : Wrong) : Type 0 where
  pub replay : name ≡ codes "replay" → wrong_replay rows ≡ Some wrong
  pub shorten : name ≡ codes "shorten" → wrong_shorten rows ≡ Some wrong
  pub outcomes : name ≡ codes "outcomes" → wrong_outcomes rows ≡ Some wrong
  pub check : name ≡ codes "check" → wrong_file (first_of (codes "acts") rows) ≡ Some wrong
  pub run : name ≡ codes "run" → wrong_file (first_of (codes "file") rows) ≡ Some wrong
  pub key : name ≡ codes "key" → wrong_key rows ≡ Some wrong

-- what a mistake says
abbrev pub said_by : Mistake → Wrong
said_by mistake = (mistake.reason, mistake.found.items)

-- a mistake says what is wrong, where something is; another fault says nothing of it
abbrev pub Tells : Option Wrong → TaskFault → Type 0
Tells wrong (faults.Words mistake) = wrong ≡ Some (said_by mistake)
Tells wrong (faults.Clap error) = Unit {0}
Tells wrong (faults.Memory refused) = Unit {0}

-- a mistake says what is wrong with the matches of the subcommand with this name
abbrev pub RefusesMatches : List ℕ → List Row → TaskFault → Type 0
RefusesMatches name rows (faults.Words mistake) = IsWrong name rows (said_by mistake)
RefusesMatches name rows (faults.Clap error) = Unit {0}
RefusesMatches name rows (faults.Memory refused) = Unit {0}

-- what clap matched stands for no task, and the mistake says why
pub record IsMistaken (matched : Option (List ℕ × List Row)) (mistake : Mistake) : Type 0 where
  pub none : IsTaskOfNone matched
  pub why : (name : List ℕ) (rows : List Row) → matched ≡ Some (name, rows) → IsWrong name rows (said_by mistake)

-- why what clap matched stands for no task, where that is a mistake
abbrev pub Refuses : Option (List ℕ × List Row) → TaskFault → Type 0
Refuses matched (faults.Words mistake) = IsMistaken matched mistake
Refuses matched (faults.Clap error) = Unit {0}
Refuses matched (faults.Memory refused) = Unit {0}

-- whether mistakes are to be explained, by what clap matched
abbrev pub wants_explanation : Option (List ℕ × List Row) → Bool
wants_explanation None = false
wants_explanation (Some (name, rows)) = flag_of (first_of (codes "explain") rows)

-- what clap matched asks for: the task that it stands for, or why it stands for none; and whether mistakes are to be explained
pub record AsksFor (matched : Option (List ℕ × List Row)) (request : Request) : Type 0 where
  pub ok : IfOk request.task (IsTaskOf matched)
  pub err : IfErr request.task (Refuses matched)
  pub explain : request.explain ≡ wants_explanation matched

-- why the words are no task, where that is a mistake
abbrev pub RefusesWords : List (List ℕ) → TaskFault → Type 0
RefusesWords words fault = Refuses (subcommand_of command_line words) fault

-- whether mistakes are to be explained is told by the words, where clap took them
abbrev pub IsExplained : List (List ℕ) → Bool → Result Task TaskFault → Type 0
IsExplained words explain (Ok task) = explain ≡ wants_explanation (subcommand_of command_line words)
IsExplained words explain (Err (faults.Words mistake)) = explain ≡ wants_explanation (subcommand_of command_line words)
IsExplained words explain (Err (faults.Clap error)) = Unit {0}
IsExplained words explain (Err (faults.Memory refused)) = Unit {0}
