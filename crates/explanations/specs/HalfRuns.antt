-- What a replay left undone, in words.
use Rattle.std.specs.Prelude.{ℕ, ◌+◌, ◌==◌, List, [], ◌∷◌, ◌++◌, Option, Some, None, length, count_by, position, sum_by, nat_le, nat_lt, if◌then◌else◌, decimal, codes, slice_index}
use Rattle.traces.specs.declared.trace.Turn.{Turn}
use Rattle.streams.specs.Shown.{line_text}

-- how many entries of a schedule are no lane's
abbrev pub absent_count : ℕ → List ℕ → ℕ
absent_count lanes schedule = count_by (λ entry. nat_le lanes entry) schedule

-- that entries of a schedule are no lane's, by the place of the first
abbrev pub absent_by : ℕ → List ℕ → Option ℕ → List ℕ
absent_by lanes schedule None = []
absent_by lanes schedule (Some at) =
    codes "; entry " ++ decimal (at + 1) ++ codes " of the schedule is lane " ++ decimal (slice_index schedule at)
    ++ codes ", which there isn't; such entries are "
    ++ decimal (absent_count lanes schedule)

abbrev pub absent_told : ℕ → List ℕ → List ℕ
absent_told lanes schedule = absent_by lanes schedule (position (λ entry. nat_le lanes entry) schedule)

-- how many replies of this lane a turn has
abbrev pub replies_by : ℕ → Turn → ℕ
replies_by lane turn = if turn.lane == lane then length turn.before + length turn.after else 0

-- how many commands of its script a lane has done: a reply ends each
abbrev pub done_in : ℕ → List Turn → ℕ
done_in lane turns = sum_by (replies_by lane) turns

-- that a lane hasn't done all of the commands of its script, which are so many
abbrev pub lane_told : ℕ → ℕ → ℕ → List ℕ
lane_told lane count done =
    if nat_lt done count then codes "; lane " ++ decimal lane ++ codes " did " ++ decimal done ++ codes " of its " ++ decimal count
    ++ codes " commands" else []

-- the same of the lanes from this one on, whose scripts have so many commands
abbrev pub left_told : ℕ → List ℕ → List Turn → List ℕ
left_told lane [] turns = []
left_told lane (count ∷ more) turns = lane_told lane count (done_in lane turns) ++ left_told (lane + 1) more turns

-- what a replay left undone
abbrev pub undone_told : ℕ → List ℕ → List ℕ → List Turn → List ℕ
undone_told lanes schedule counts turns = absent_told lanes schedule ++ left_told 0 counts turns

-- a line, where something is told
abbrev pub undone_line : List ℕ → List ℕ
undone_line told = if length told == 0 then [] else line_text (codes "half done" ++ told)

-- the line that tells what a replay of so many lanes over this schedule left undone: entries that are no lane's, and scripts of so many commands
-- that aren't at their end; empty where there is nothing
abbrev pub half_text : ℕ → List ℕ → List ℕ → List Turn → List ℕ
half_text lanes schedule counts turns = undone_line (undone_told lanes schedule counts turns)
