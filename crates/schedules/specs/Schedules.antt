-- The text of a schedule: one or more decimal numbers of one to three digits, at most 255, with single commas between. The text of a stop: a
-- lane and a number of its entries, with a colon between.
use Rattle.std.specs.Prelude.{ℕ, ◌+◌, ◌==◌, List, [], ◌∷◌, ◌++◌, Option, Some, None, is_some, map, flat_map, if◌then◌else◌, option_map, option_and_then, decimal, codes}
use Rattle.schedules.specs.Numbers.{number_of}
use Rattle.schedules.specs.Parts.{parts_of}

-- the lane of an entry
abbrev pub entry_of : List ℕ → Option ℕ
entry_of text = number_of 3 255 text

-- each part, as an entry
abbrev pub entries_of : List (List ℕ) → Option (List ℕ)
entries_of [] = Some []
entries_of (part ∷ parts) = option_and_then (λ entry. option_map (λ entries. entry ∷ entries) (entries_of parts)) (entry_of part)

-- the schedule that a text stands for
abbrev pub schedule_of : List ℕ → Option (List ℕ)
schedule_of text = entries_of (parts_of 44 text)

-- the first of these parts that is no entry, and how many parts stand before it, where so many stand before all of them
abbrev pub bad_part : ℕ → List (List ℕ) → Option (ℕ × List ℕ)
bad_part before [] = None
bad_part before (part ∷ parts) = if is_some (entry_of part) then bad_part (before + 1) parts else Some (before, part)

-- the first part of a text that is no entry, and how many parts stand before it
abbrev pub bad_entry : List ℕ → Option (ℕ × List ℕ)
bad_entry text = bad_part 0 (parts_of 44 text)

-- the lane and the number of these parts
abbrev pub stop_with : List (List ℕ) → Option (ℕ × ℕ)
stop_with (lane ∷ after ∷ []) =
    option_and_then (λ l. option_map (λ k. (l, k)) (number_of 20 4294967295 after)) (number_of 20 4294967295 lane)
stop_with parts = None

-- the stop that a text stands for: the lane, and how many of its entries count
abbrev pub stop_of : List ℕ → Option (ℕ × ℕ)
stop_of text = stop_with (parts_of 58 text)

-- ---- schedules in files

-- a text without the line's end behind it, where it has one
abbrev pub without_end : List ℕ → List ℕ
without_end [] = []
without_end (byte ∷ []) = if byte == 10 then [] else byte ∷ []
without_end (byte ∷ next ∷ more) = byte ∷ without_end (next ∷ more)

-- a comma in place of a line's end
abbrev pub comma_for : ℕ → ℕ
comma_for byte = if byte == 10 then 44 else byte

-- the text of a file as that of a command line
abbrev pub joined : List ℕ → List ℕ
joined text = map comma_for (without_end text)

-- the schedule of a file's text that was joined: no text is the schedule without entries
abbrev pub joined_schedule : List ℕ → Option (List ℕ)
joined_schedule [] = Some []
joined_schedule (byte ∷ more) = schedule_of (byte ∷ more)

-- entries, each with a comma before it
abbrev pub further_entries : List ℕ → List ℕ
further_entries entries = flat_map (λ entry. codes "," ++ decimal entry) entries

-- the line of a schedule: its entries with commas between them
abbrev pub schedule_line : List ℕ → List ℕ
schedule_line [] = codes "\n"
schedule_line (entry ∷ more) = decimal entry ++ further_entries more ++ codes "\n"
