-- What is said of a mistake in the words.
use Rattle.std.specs.Prelude.{ℕ, ◌+◌, Bool, true, false, List, [], ◌++◌, Option, Some, None, decimal, codes}
use Rattle.schedules.specs.Schedules.{bad_entry}
use Rattle.streams.specs.Shown.{bytes_text, cut}
use Rattle.commandline.specs.declared.mistakes.Mistake.{Mistake}
use Rattle.commandline.specs.declared.mistakes.Reason.{Reason}
use Rattle.commandline.specs.declared.mistakes.Reason.TheVariants.{NoTurns, SeedAlone, TurnsAlone, ScheduleAndMore, BadSchedule, BadFile, InputTwice, TwoTexts, BadSeed, BadTurns, BadStop, BadTries, BadMost, BadNumber, BadHexadecimal, BadFrom, BadCount, NoText, Missing}

-- before the text that the reason is about: the option
abbrev pub before_of : Reason → List ℕ
before_of NoTurns = codes "no turns are given"
before_of SeedAlone = codes "--seed "
before_of TurnsAlone = codes "--turns "
before_of ScheduleAndMore = codes "--schedule "
before_of BadSchedule = codes "--schedule \""
before_of BadFile = codes "the file of --schedule: \""
before_of InputTwice = codes "FILE and --schedule are both standard input"
before_of TwoTexts = codes "--acts stands beside --print-schedule"
before_of BadSeed = codes "--seed \""
before_of BadTurns = codes "--turns \""
before_of BadStop = codes "--stop \""
before_of BadTries = codes "--tries \""
before_of BadMost = codes "--most \""
before_of BadNumber = codes "N \""
before_of BadHexadecimal = codes "N \""
before_of BadFrom = codes "--from \""
before_of BadCount = codes "--turns \""
before_of NoText = codes "a word is no text"
before_of Missing = codes "a word is missing"

-- behind it: what is wanted
abbrev pub after_of : Reason → List ℕ
after_of NoTurns = codes ": give --schedule, or --seed and --turns"
after_of SeedAlone = codes " needs --turns"
after_of TurnsAlone = codes " needs --seed"
after_of ScheduleAndMore = codes " stands beside --seed or --turns: give --schedule alone, or --seed and --turns"
after_of BadSchedule = codes "\" is no schedule: numbers of one to three digits, at most 255, with single commas between them"
after_of BadFile = codes "\" is no schedule: numbers of one to three digits, at most 255, with single commas or line feeds between them"
after_of InputTwice = codes ": give one of them by its path"
after_of TwoTexts = codes ": one text alone is printed"
after_of BadSeed = codes "\" is no seed: one to twenty decimal digits, at most 18446744073709551615"
after_of BadTurns = codes "\" is no number of turns: one to twenty decimal digits, at most 1000000"
after_of BadStop = codes "\" is no stop: a lane, a colon and a number of turns, each of one to twenty decimal digits and at most 4294967295"
after_of BadTries = codes "\" is no number of replays: one to twenty decimal digits, 1 to 18446744073709551615"
after_of BadMost = codes "\" is no number of states: one to twenty decimal digits, 1 to 18446744073709551615"
after_of BadNumber = codes "\" is no number: one to twenty decimal digits, at most 18446744073709551615; with --hex hexadecimal digits"
after_of BadHexadecimal = codes "\" is no hexadecimal number: one to sixteen hexadecimal digits, with or without 0x before them"
after_of BadFrom = codes "\" is no turn: one to twenty decimal digits, at most 4294967295"
after_of BadCount = codes "\" is no number of turns: one to twenty decimal digits, at most 4294967295"
after_of NoText = codes ": words are texts in UTF-8"
after_of Missing = codes ": --help says which words there are"

-- which entry of a schedule is none, counted from 1
abbrev pub entry_told : Option (ℕ × List ℕ) → List ℕ
entry_told None = []
entry_told (Some (before, entry)) = codes "; entry " ++ decimal (before + 1) ++ codes " is \"" ++ cut entry ++ codes "\""

-- where in the text that the reason is about the mistake stands: of a schedule the entry
abbrev pub where_of : Reason → List ℕ → List ℕ
where_of BadSchedule found = entry_told (bad_entry found)
where_of BadFile found = entry_told (bad_entry found)
where_of reason found = []

-- what is told of a mistake; the text that was found is cut where it is long
abbrev pub mistake_told : Mistake → List ℕ
mistake_told mistake = before_of mistake.reason ++ cut mistake.found.items ++ after_of mistake.reason
    ++ where_of mistake.reason mistake.found.items

-- the line that explains a mistake
abbrev pub mistake_text : Mistake → List ℕ
mistake_text mistake = bytes_text (mistake_told mistake) ++ codes "\n"

-- what is said of a mistake: that the words are wrong, and where that is wanted the line that explains it
abbrev pub words_text : Bool → Mistake → List ℕ
words_text false mistake = codes "words\n"
words_text true mistake = codes "words\n" ++ mistake_text mistake
