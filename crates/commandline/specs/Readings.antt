-- What the texts of options stand for.
use Rattle.std.specs.Prelude.{◌≡◌, ◌==◌, ◌&&◌, ⊤, ℕ, Bool, true, false, List, Option, Some, None, codes, string_bytes, option_map, option_and_then, if◌then◌else◌}
use Rattle.std.specs.Borrow.{Bor}
use Rattle.std.specs.Str.{bytes_eq}
use Rattle.clap.specs.Lexer.{strip_byte}
use Rattle.commandline.specs.Hexadecimal.{hex_number}
use Rattle.commandline.specs.declared.tasks.Stop.{Stop}
use Rattle.commandline.specs.declared.tasks.Turns.{Turns}
use Rattle.commandline.specs.declared.tasks.Turns.TheVariants.{Listed, Drawn, InFile}
use Rattle.schedules.specs.Numbers.{number_of}
use Rattle.schedules.specs.Schedules.{schedule_of, stop_of, joined, joined_schedule}

-- the text behind a reference, where there is one
abbrev pub text_of : Option (Bor (List ℕ)) → Option (List ℕ)
text_of given = option_map (λ text. text.now) given

-- a seed, or the number of a key: of one to twenty digits, and of 64 bits
abbrev pub long_number : List ℕ → Option ℕ
long_number text = number_of 20 18446744073709551615 text

-- the number of a key or a word: of hexadecimal digits, or decimal
abbrev pub key_number : Bool → List ℕ → Option ℕ
key_number true text = hex_number text
key_number false text = long_number text

-- whether a flag with this text was used
abbrev pub flag_of : Option (List ℕ) → Bool
flag_of None = false
flag_of (Some text) = bytes_eq text (codes "true")

-- a number of turns: of one to twenty digits, at most a million
abbrev pub turn_count : List ℕ → Option ℕ
turn_count text = number_of 20 1000000 text

-- a number of replays, or of states: of one to twenty digits, at least 1, and of 64 bits
abbrev pub try_count : List ℕ → Option ℕ
try_count text = option_and_then (λ tries. if tries == 0 then None else Some tries) (long_number text)

-- the number of replays of a text, and none where no text is given
abbrev pub AreTries : Option (List ℕ) → Option ℕ → Type 0
AreTries None None = ⊤
AreTries (Some text) (Some tries) = try_count text ≡ Some tries
AreTries text other = ⊥

-- the number of states of a text, and 100000 where no text is given
abbrev pub IsMost : Option (List ℕ) → ℕ → Type 0
IsMost None most = most ≡ 100000
IsMost (Some text) most = try_count text ≡ Some most

-- the path of the file that a schedule is in, where its text names one: a dash, which is standard input, or an at sign and the path
abbrev pub schedule_file : List ℕ → Option (List ℕ)
schedule_file text = if bytes_eq text (codes "-") then Some text else strip_byte 64 text

-- whether a path is that of standard input
abbrev pub is_input : Option (List ℕ) → Bool
is_input None = false
is_input (Some path) = bytes_eq path (codes "-")

-- whether the texts of a file and of a schedule both name standard input
abbrev pub are_both_input : Option (List ℕ) → Option (List ℕ) → Bool
are_both_input (Some file) (Some schedule) = bytes_eq file (codes "-") && is_input (schedule_file schedule)
are_both_input file schedule = false

-- the turns of a schedule alone, or of a seed and a number of turns without a schedule, each of which may be given or not
abbrev pub AreTurns : Option (List ℕ) → Option (List ℕ) → Option (List ℕ) → Turns → Type 0
AreTurns (Some schedule) None None (Listed lanes) = schedule_of schedule ≡ Some lanes.items
AreTurns (Some schedule) None None (InFile path) = schedule_file schedule ≡ Some (string_bytes path)
AreTurns None (Some seed) (Some turns) (Drawn from count) = (long_number seed ≡ Some from) × (turn_count turns ≡ Some count)
AreTurns schedule seed turns other = ⊥

-- the stop of a text, and none where no text is given
abbrev pub IsStop : Option (List ℕ) → Option Stop → Type 0
IsStop None None = ⊤
IsStop (Some text) (Some stop) = stop_of text ≡ Some (stop.lane, stop.after)
IsStop text other = ⊥

-- the turns that the bytes of a schedule's file list
abbrev pub AreListed : List ℕ → Turns → Type 0
AreListed bytes (Listed lanes) = joined_schedule (joined bytes) ≡ Some lanes.items
AreListed bytes (Drawn from count) = ⊥
AreListed bytes (InFile path) = ⊥
