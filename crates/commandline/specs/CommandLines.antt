-- What the words of the command line stand for, by what `clap` matches.
use Rattle.std.specs.Prelude.{◌≡◌, ℕ, Bool, false, List, [], ◌∷◌, Option, Some, true, codes, fold, option_and_then, string_bytes}
use Rattle.clap.specs.Simple.{new_shape}
use Rattle.clap.specs.Words.{App, Row, Rule, first_of, new_app, new_rule, subcommand_of, with_rule, with_subcommand}
use Rattle.clap.specs.declared.builder.action.ArgAction.TheVariants.{SetTrue}
use Rattle.commandline.specs.declared.tasks.Stop.{Stop}
use Rattle.commandline.specs.declared.tasks.Task.{Task}
use Rattle.commandline.specs.declared.tasks.Task.TheVariants.{Replay, Schedule, Shorten, Outcomes, Check, Run, Key, Word}
use Rattle.commandline.specs.declared.tasks.Turns.{Turns}
use Rattle.commandline.specs.Readings.{flag_of, key_number, are_both_input, AreTries, IsMost, AreTurns, IsStop}

-- a positional argument with this id, which must be there
abbrev pub positional : List ℕ → Rule
positional id = record (new_rule id) { value_names = 1; required = true }

-- an option of this name, with a value
abbrev pub option_named : List ℕ → Rule
option_named name = record (new_rule name) { long = Some name; value_names = 1 }

-- an option of this name, with a value, which must be there
abbrev pub needed_option : List ℕ → Rule
needed_option name = record (option_named name) { required = true }

-- a flag of this name
abbrev pub flag_named : List ℕ → Rule
flag_named name = record (new_rule name) { long = Some name; action = Some SetTrue }

-- the subcommand of this name with these arguments
abbrev pub line_of : List ℕ → List Rule → App
line_of name arguments = fold with_rule (new_app name) arguments

-- the subcommand `replay`
abbrev pub replay_line : App
replay_line = line_of (codes "replay")
    (positional (codes "file") ∷ option_named (codes "schedule") ∷ option_named (codes "seed") ∷ option_named (codes "turns")
    ∷ option_named (codes "stop") ∷ flag_named (codes "acts") ∷ flag_named (codes "print-schedule") ∷ flag_named (codes "progress")
    ∷ flag_named (codes "explain") ∷ [])

-- the subcommand `shorten`
abbrev pub shorten_line : App
shorten_line = line_of (codes "shorten")
    (positional (codes "file") ∷ needed_option (codes "until") ∷ option_named (codes "schedule") ∷ option_named (codes "seed")
    ∷ option_named (codes "turns") ∷ option_named (codes "stop") ∷ option_named (codes "tries") ∷ flag_named (codes "words")
    ∷ flag_named (codes "scripts") ∷ flag_named (codes "progress") ∷ flag_named (codes "explain") ∷ [])

-- the subcommand `outcomes`
abbrev pub outcomes_line : App
outcomes_line = line_of (codes "outcomes")
    (positional (codes "file") ∷ option_named (codes "most") ∷ flag_named (codes "count") ∷ flag_named (codes "explain") ∷ [])

-- the subcommand `check`
abbrev pub check_line : App
check_line = line_of (codes "check") (positional (codes "acts") ∷ flag_named (codes "explain") ∷ [])

-- the subcommand `run`
abbrev pub run_line : App
run_line = line_of (codes "run") (positional (codes "file") ∷ flag_named (codes "explain") ∷ [])

-- the subcommand `key`
abbrev pub key_line : App
key_line = line_of (codes "key")
    (positional (codes "number") ∷ flag_named (codes "hex") ∷ flag_named (codes "word") ∷ flag_named (codes "explain") ∷ [])

-- a program of this name, before its subcommands; it has a version
abbrev pub program_named : List ℕ → App
program_named name = record { top = record (new_shape name) { subcommand_required = true; has_version = true }; subs = [] }

-- the program, before its subcommands
abbrev pub program : App
program = program_named (codes "poolrun")

-- the program's command line
abbrev pub command_line : App
command_line = with_subcommand
    (with_subcommand (with_subcommand (with_subcommand (with_subcommand (with_subcommand program replay_line.top) shorten_line.top)
    outcomes_line.top) check_line.top) run_line.top) key_line.top

-- the file, the turns and the stop of a replay, by matches
pub record HasTurns (rows : List Row) (file : List ℕ) (turns : Turns) (stop : Option Stop) : Type 0 where
  pub is_file : first_of (codes "file") rows ≡ Some file
  pub are_turns : AreTurns (first_of (codes "schedule") rows) (first_of (codes "seed") rows) (first_of (codes "turns") rows) turns
  pub is_stop : IsStop (first_of (codes "stop") rows) stop
  -- the file and the schedule aren't both standard input
  pub apart : are_both_input (first_of (codes "file") rows) (first_of (codes "schedule") rows) ≡ false

-- whether a flag of this name was used
abbrev pub is_flagged : List ℕ → List Row → Bool
is_flagged name rows = flag_of (first_of name rows)

-- the number of a key or a word, by the matches of `key`: in hexadecimal digits where that flag was used
abbrev pub number_in : List Row → Option ℕ
number_in rows = option_and_then (key_number (flag_of (first_of (codes "hex") rows))) (first_of (codes "number") rows)

-- a task, by the name of a subcommand and its matches
abbrev pub AreMatchesOf : List ℕ → List Row → Task → Type 0
AreMatchesOf name rows (Replay file turns stop acts) = (name ≡ codes "replay") × HasTurns rows (string_bytes file) turns stop
    × (is_flagged (codes "print-schedule") rows ≡ false) × (acts ≡ is_flagged (codes "acts") rows)
AreMatchesOf name rows (Schedule file turns stop) = (name ≡ codes "replay") × HasTurns rows (string_bytes file) turns stop
    × (is_flagged (codes "print-schedule") rows ≡ true) × (is_flagged (codes "acts") rows ≡ false)
AreMatchesOf name rows (Shorten file turns stop search) = (name ≡ codes "shorten") × HasTurns rows (string_bytes file) turns stop
    × (first_of (codes "until") rows ≡ Some (string_bytes search.word)) × AreTries (first_of (codes "tries") rows) search.tries
    × (search.decoded ≡ is_flagged (codes "words") rows) × (search.scripts ≡ is_flagged (codes "scripts") rows)
AreMatchesOf name rows (Outcomes file most count) = (name ≡ codes "outcomes") × (first_of (codes "file") rows ≡ Some (string_bytes file))
    × IsMost (first_of (codes "most") rows) most × (count ≡ is_flagged (codes "count") rows)
AreMatchesOf name rows (Check file) = (name ≡ codes "check") × (first_of (codes "acts") rows ≡ Some (string_bytes file))
AreMatchesOf name rows (Run file) = (name ≡ codes "run") × (first_of (codes "file") rows ≡ Some (string_bytes file))
AreMatchesOf name rows (Key number) = (name ≡ codes "key") × (flag_of (first_of (codes "word") rows) ≡ false)
    × (number_in rows ≡ Some number)
AreMatchesOf name rows (Word word) = (name ≡ codes "key") × (flag_of (first_of (codes "word") rows) ≡ true) × (number_in rows ≡ Some word)

-- what clap matched, a subcommand's name and its matches, stands for the task
pub record IsTaskOf (matched : Option (List ℕ × List Row)) (task : Task) : Type 0 where
  pub name : List ℕ
  pub rows : List Row
  pub is : matched ≡ Some (name, rows)
  pub matches : AreMatchesOf name rows task

-- the words stand for the task
abbrev pub AreWordsOf : List (List ℕ) → Task → Type 0
AreWordsOf words task = IsTaskOf (subcommand_of command_line words) task

-- what clap matched stands for no task
abbrev pub IsTaskOfNone : Option (List ℕ × List Row) → Type 0
IsTaskOfNone matched = (task : Task) → IsTaskOf matched task → ⊥

-- the words stand for no task
abbrev pub AreWordsOfNone : List (List ℕ) → Type 0
AreWordsOfNone words = IsTaskOfNone (subcommand_of command_line words)
