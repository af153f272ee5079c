-- What is said behind a mistake to someone at a terminal: the program, the file, and where to read on.
use Rattle.std.specs.Prelude.{◌≡◌, ℕ, ◌&&◌, ◌||◌, ◌==◌, ◌++◌, Bool, true, false, List, [], Option, Some, None, Result, Ok, Err, codes, find}
use Rattle.std.specs.Str.{bytes_eq}
use Rattle.streams.specs.Saying.{Says}
use Rattle.streams.specs.Shown.{bytes_text, cut}
use Rattle.streams.specs.declared.writer.Watched.{Watched}
use Rattle.commandline.specs.declared.fault.TaskFault.{TaskFault}
use Rattle.commandline.specs.declared.fault.TaskFault.TheVariants as faults

-- the file, where there is one
abbrev pub file_told : Option (List ℕ) → List ℕ
file_told None = []
file_told (Some path) = cut path ++ codes ": "

-- the subcommand, where there is one
abbrev pub command_told : Option (List ℕ) → List ℕ
command_told None = []
command_told (Some name) = codes " " ++ cut name

-- the line of a hint
abbrev pub hint_told : List ℕ → Option (List ℕ) → Option (List ℕ) → List ℕ
hint_told program command file =
    program ++ codes ": " ++ file_told file ++ codes "read on in \"" ++ program ++ command_told command ++ codes " --help\""

abbrev pub hint_text : List ℕ → Option (List ℕ) → Option (List ℕ) → List ℕ
hint_text program command file = bytes_text (hint_told program command file) ++ codes "\n"

-- whether a hint is given, by the status that the program ends with: behind a mistake that is explained, where hints are wanted and one is due
abbrev pub is_hinted : Bool → Bool → Bool → ℕ → Bool
is_hinted hints due explain status = hints && due && explain && (status == 1 || status == 2)

-- a hint is given where it is wanted
abbrev pub Hints : {E : Type 0} → (E → Option (List ℕ)) → Bool → List ℕ → Watched E → Watched E → Type 0
Hints contents true text before after = Says contents before after text
Hints contents false text before after = after ≡ before

-- whether a hint is due: clap, which may have refused the words, says itself where to read on
abbrev pub is_due : {T : Type 0} → Result T TaskFault → Bool
is_due (Ok asked) = true
is_due (Err (faults.Clap error)) = false
is_due (Err (faults.Words mistake)) = true
is_due (Err (faults.Memory refused)) = true

-- a path as it stands among the words, where it does
abbrev pub word_of : List (List ℕ) → Option (List ℕ) → Option (List ℕ)
word_of words None = None
word_of words (Some path) = find (λ word. bytes_eq word path) words
