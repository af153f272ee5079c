-- Which mistake there is in words that clap takes, where `poolview` has nothing to show for them.
use Rattle.std.specs.Prelude.{◌≡◌, ◌⊎◌, ℕ, Bool, List, Option, Some, None, Result, Ok, Err, codes}
use Rattle.clap.specs.Words.{Row, first_of, subcommand_of}
use Rattle.commandline.specs.Mistakes.{Wrong, unless_read, first_wrong, wrong_file, said_by, wants_explanation}
use Rattle.commandline.specs.ViewLines.{turn_number, view_line}
use Rattle.commandline.specs.declared.fault.TaskFault.{TaskFault}
use Rattle.commandline.specs.declared.fault.TaskFault.TheVariants as faults
use Rattle.commandline.specs.declared.mistakes.Reason.{Reason}
use Rattle.commandline.specs.declared.mistakes.Reason.TheVariants.{BadFrom, BadCount}
use Rattle.commandline.specs.declared.views.Viewing.{Viewing}

-- what is wrong with the text of a number that may be left out
abbrev pub wrong_if_given : Reason → Option (List ℕ) → Option Wrong
wrong_if_given reason None = None
wrong_if_given reason (Some text) = unless_read (turn_number text) reason text

-- what is wrong with the turns of a picture or a page
abbrev pub wrong_turns : List Row → Option Wrong
wrong_turns rows = first_wrong (wrong_if_given BadFrom (first_of (codes "from") rows))
    (wrong_if_given BadCount (first_of (codes "turns") rows))

-- this is wrong with the matches of the subcommand with this name, beside its file
pub record IsWrongView (name : List ℕ) (rows : List Row) (wrong : Wrong) : Type 0 where
  pub picture : name ≡ codes "picture" → wrong_turns rows ≡ Some wrong
  pub words : name ≡ codes "words" → ⊥
  pub summary : name ≡ codes "summary" → ⊥
  pub json : name ≡ codes "json" → ⊥
  pub events : name ≡ codes "events" → ⊥
  pub page : name ≡ codes "page" → wrong_turns rows ≡ Some wrong
  pub check : name ≡ codes "check" → ⊥

-- a mistake says what is wrong with the matches of the subcommand with this name; another fault says nothing of it
abbrev pub RefusesView : List ℕ → List Row → TaskFault → Type 0
RefusesView name rows (faults.Words mistake) = IsWrongView name rows (said_by mistake)
RefusesView name rows (faults.Clap error) = Unit {0}
RefusesView name rows (faults.Memory refused) = Unit {0}

-- a mistake says what is wrong with what clap matched: its file is missing, or else what the subcommand asks for is wrong
abbrev pub RefusesViewing : Option (List ℕ × List Row) → TaskFault → Type 0
RefusesViewing matched (faults.Words mistake) = (name : List ℕ) (rows : List Row) → matched ≡ Some (name, rows)
    → (wrong_file (first_of (codes "file") rows) ≡ Some (said_by mistake)) ⊎ IsWrongView name rows (said_by mistake)
RefusesViewing matched (faults.Clap error) = Unit {0}
RefusesViewing matched (faults.Memory refused) = Unit {0}

-- why `poolview` has nothing to show for the words, where that is a mistake
abbrev pub RefusesViewWords : List (List ℕ) → TaskFault → Type 0
RefusesViewWords words fault = RefusesViewing (subcommand_of view_line words) fault

-- whether mistakes are to be explained is told by the words, where clap took them
abbrev pub IsViewExplained : List (List ℕ) → Bool → Result Viewing TaskFault → Type 0
IsViewExplained words explain (Ok viewing) = explain ≡ wants_explanation (subcommand_of view_line words)
IsViewExplained words explain (Err (faults.Words mistake)) = explain ≡ wants_explanation (subcommand_of view_line words)
IsViewExplained words explain (Err (faults.Clap error)) = Unit {0}
IsViewExplained words explain (Err (faults.Memory refused)) = Unit {0}
