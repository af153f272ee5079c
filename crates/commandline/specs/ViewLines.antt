-- What the words of `poolview` stand for, by what `clap` matches.
use Rattle.std.specs.Prelude.{◌≡◌, ℕ, List, [], ◌∷◌, Option, Some, None, codes, not}
use Rattle.clap.specs.Words.{App, Row, first_of, subcommand_of, with_subcommand}
use Rattle.schedules.specs.Numbers.{number_of}
use Rattle.commandline.specs.CommandLines.{positional, option_named, flag_named, line_of, program_named}
use Rattle.commandline.specs.Readings.{flag_of}
use Rattle.commandline.specs.declared.views.View.{View}
use Rattle.commandline.specs.declared.views.View.TheVariants as views
use Rattle.commandline.specs.declared.views.Viewing.{Viewing}

-- the subcommand `picture`
abbrev pub picture_line : App
picture_line = line_of (codes "picture")
    (positional (codes "file") ∷ option_named (codes "from") ∷ option_named (codes "turns") ∷ flag_named (codes "fit")
    ∷ flag_named (codes "whole")
    ∷ flag_named (codes "explain") ∷ [])

-- the subcommand `words`
abbrev pub words_line : App
words_line = line_of (codes "words") (positional (codes "file") ∷ flag_named (codes "keys") ∷ flag_named (codes "numbers")
    ∷ flag_named (codes "explain") ∷ [])

-- the subcommand `page`
abbrev pub page_line : App
page_line = line_of (codes "page")
    (positional (codes "file") ∷ option_named (codes "from") ∷ option_named (codes "turns") ∷ flag_named (codes "explain") ∷ [])

-- the subcommand of this name, about a file alone
abbrev pub plain_line : List ℕ → App
plain_line name = line_of name (positional (codes "file") ∷ flag_named (codes "explain") ∷ [])

-- the program, before its subcommands
abbrev pub view_program : App
view_program = program_named (codes "poolview")

-- the program with its subcommands of words
abbrev pub worded_program : App
worded_program = with_subcommand (with_subcommand (with_subcommand view_program picture_line.top) words_line.top)
    (plain_line (codes "summary")).top

-- the program with those and its subcommands for other tools
abbrev pub paged_program : App
paged_program = with_subcommand
    (with_subcommand (with_subcommand worded_program (plain_line (codes "json")).top) (plain_line (codes "events")).top)
    page_line.top

-- the program's command line
abbrev pub view_line : App
view_line = with_subcommand paged_program (plain_line (codes "check")).top

-- a number of turns, or of a turn: of one to twenty digits, at most 4294967295
abbrev pub turn_number : List ℕ → Option ℕ
turn_number text = number_of 20 4294967295 text

-- the number of a text; this one where no text is given
abbrev pub IsNumber : ℕ → Option (List ℕ) → ℕ → Type 0
IsNumber default None number = number ≡ default
IsNumber default (Some text) number = turn_number text ≡ Some number

-- the first of the turns that are to be shown, and how many at most: from the first turn on and all of them, unless others are given
abbrev pub AreTurns : List Row → ℕ → ℕ → Type 0
AreTurns rows first count =
    IsNumber 0 (first_of (codes "from") rows) first × IsNumber 18446744073709551615 (first_of (codes "turns") rows) count

-- what the subcommand of this name asks for, by its matches: a picture or a page of some turns; a picture fits unless it is to be whole
abbrev pub IsView : List ℕ → List Row → View → Type 0
IsView name rows (views.Picture first count fit) =
    (name ≡ codes "picture") × AreTurns rows first count × (fit ≡ not (flag_of (first_of (codes "whole") rows)))
IsView name rows (views.Words keys numbers) =
    (name ≡ codes "words") × (keys ≡ flag_of (first_of (codes "keys") rows)) × (numbers ≡ flag_of (first_of (codes "numbers") rows))
IsView name rows views.Summary = name ≡ codes "summary"
IsView name rows views.Json = name ≡ codes "json"
IsView name rows views.Events = name ≡ codes "events"
IsView name rows (views.Page first count) = (name ≡ codes "page") × AreTurns rows first count
IsView name rows views.Check = name ≡ codes "check"

-- what clap matched, a subcommand's name and its matches, asks for this
pub record IsViewing (matched : Option (List ℕ × List Row)) (viewing : Viewing) : Type 0 where
  pub name : List ℕ
  pub rows : List Row
  pub is : matched ≡ Some (name, rows)
  pub file : first_of (codes "file") rows ≡ Some viewing.file.now
  pub view : IsView name rows viewing.view

-- the words ask for this
abbrev pub AreViewWordsOf : List (List ℕ) → Viewing → Type 0
AreViewWordsOf words viewing = IsViewing (subcommand_of view_line words) viewing
