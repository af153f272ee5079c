-- When mistakes are explained, and progress is told.
use Rattle.std.specs.Prelude.{◌≡◌, ℕ, ◌||◌, Bool, true, false, List, [], ◌∷◌, Option, Some, None, Result, Ok, Err, String, map, codes, string_bytes, length, take, drop, if◌then◌else◌}
use Rattle.std.specs.Str.{bytes_eq}
use Rattle.std.specs.declared.alloc.Global.{Global}
use Rattle.std.specs.declared.env.VarError.{VarError}
use Rattle.commandline.specs.declared.wishes.Call.{Call}
use Rattle.commandline.specs.declared.wishes.Matter.{Matter}
use Rattle.commandline.specs.declared.wishes.Matter.TheVariants.{Mistakes, Progress}
use Rattle.commandline.specs.declared.wishes.Wish.{Wish}
use Rattle.commandline.specs.declared.wishes.Wish.TheVariants.{Never, Always, Auto}

-- the flag by which a matter is asked for
abbrev pub flag_of : Matter → List ℕ
flag_of Mistakes = codes "--explain"
flag_of Progress = codes "--progress"

-- what the flag alone says; that of mistakes is read by clap
abbrev pub alone : Matter → Option Wish
alone Mistakes = None
alone Progress = Some Always

-- what is said of a matter by what stands behind its flag
abbrev pub said_behind : Matter → List ℕ → Option Wish
said_behind matter behind =
    if bytes_eq behind [] then alone matter
    else (if bytes_eq behind (codes "=never") then Some Never
    else (if bytes_eq behind (codes "=always") then Some Always
    else (if bytes_eq behind (codes "=auto") then Some Auto else None)))

-- what a word says of a matter, where it begins with the flag
abbrev pub wish_of : Matter → List ℕ → Option Wish
wish_of matter word =
    if bytes_eq (take (length (flag_of matter)) word) (flag_of matter) then said_behind matter (drop (length (flag_of matter)) word)
    else None

-- a word by what it says of both matters: such a word is read as the flag
abbrev pub plain_by : List ℕ → Option Wish → Option Wish → List ℕ
plain_by word (Some wish) progress = flag_of Mistakes
plain_by word None (Some wish) = flag_of Progress
plain_by word None None = word

-- a word as clap reads it
abbrev pub plain_word : List ℕ → List ℕ
plain_word word = plain_by word (wish_of Mistakes word) (wish_of Progress word)

-- the first of two that there is
abbrev pub first_wish : Option Wish → Option Wish → Option Wish
first_wish None later = later
first_wish (Some wish) later = Some wish

-- what the first of some words says of a matter that says something of it
abbrev pub wish_in : Matter → List (List ℕ) → Option Wish
wish_in matter [] = None
wish_in matter (word ∷ more) = first_wish (wish_of matter word) (wish_in matter more)

-- whether a word is --
abbrev pub is_end : List ℕ → Bool
is_end word = bytes_eq word (codes "--")

-- the words before the first --, behind which none is an option
abbrev pub options_of : List (List ℕ) → List (List ℕ)
options_of [] = []
options_of (word ∷ more) = if is_end word then [] else word ∷ options_of more

-- words as clap reads them: as they stand from the first -- on
abbrev pub plain_words : List (List ℕ) → List (List ℕ)
plain_words [] = []
plain_words (word ∷ more) = if is_end word then word ∷ more else plain_word word ∷ plain_words more

-- a program was called with these words: how clap reads them, and what is said before the first -- of explanations and of progress
pub record IsCallOf (words : List (List ℕ)) (call : Call) : Type 0 where
  pub plain : map string_bytes call.words.items ≡ plain_words words
  pub wish : call.wish ≡ wish_in Mistakes (options_of words)
  pub progress : call.progress ≡ wish_in Progress (options_of words)

-- the word behind the program's name
abbrev pub command_in : List (List ℕ) → Option (List ℕ)
command_in [] = None
command_in (name ∷ []) = None
command_in (name ∷ command ∷ more) = Some command

-- whether mistakes are explained, or progress is told: as a word says, and where none does by the flag, or where hints are wanted
abbrev pub is_wanted : Option Wish → Bool → Bool → Bool
is_wanted None flag hints = flag || hints
is_wanted (Some Never) flag hints = false
is_wanted (Some Always) flag hints = true
is_wanted (Some Auto) flag hints = hints

-- whether a variable of the environment says that no hints are wanted
abbrev pub is_quiet : Result (String Global) VarError → Bool
is_quiet (Ok text) = bytes_eq (string_bytes text) (codes "never")
is_quiet (Err error) = false
