-- What is told of progress.
use Rattle.std.specs.Prelude.{ℕ, ◌+◌, ◌-◌, ◌^◌, ◌==◌, ◌&&◌, ◌||◌, nat_le, not, min, Bool, true, false, List, [], ◌∷◌, ◌++◌, decimal, codes, if◌then◌else◌}
use Rattle.poolprogram.specs.declared.meter.Meter.{Meter}

-- ---- texts

-- the line of a replay: how many turns are made of how many
abbrev pub turns_line : ℕ → ℕ → List ℕ
turns_line made all = codes "replay: " ++ decimal made ++ codes " of " ++ decimal all ++ codes " turns"

-- the line of a shortening: how many entries are left of how many, and how many trials that took
abbrev pub entries_line : ℕ → ℕ → ℕ → List ℕ
entries_line left all trials = codes "shorten: " ++ decimal left ++ codes " of " ++ decimal all ++ codes " entries left, trials: " ++ decimal trials

-- what erases a line that is written over
abbrev pub erasure : List ℕ
erasure = 13 ∷ 27 ∷ 91 ∷ 75 ∷ []

-- what stands before a line that is written over the one that stands there, or is a line of its own
abbrev pub before_line : Bool → List ℕ
before_line true = 13 ∷ []
before_line false = []

-- what stands behind it: what erases the rest of the other, or the line's end
abbrev pub behind_line : Bool → List ℕ
behind_line true = 27 ∷ 91 ∷ 75 ∷ []
behind_line false = 10 ∷ []

-- a line as it is written
abbrev pub told : Bool → List ℕ → List ℕ
told in_place line = before_line in_place ++ line ++ behind_line in_place

-- the text, where it is wanted
abbrev pub told_if : Bool → List ℕ → List ℕ
told_if true text = text
told_if false text = []

-- ---- when they are written

-- a sum, or the largest number of 64 bits
abbrev pub sum_within : ℕ → ℕ → ℕ
sum_within one other = min (one + other) (2 ^ 64 - 1)

-- whether something is told when so many more entries were replayed: where that is wanted, after each 50000
abbrev pub is_due : {W : Type 0} → Meter W → ℕ → Bool
is_due m entries = m.wanted && nat_le 50000 (sum_within m.untold entries)

-- one more turn or trial was made, in which so many entries were replayed
abbrev pub counted : {W : Type 0} → Meter W → ℕ → Meter W
counted m entries = record m { made = sum_within m.made 1; untold = if is_due m entries then 0 else sum_within m.untold entries }

-- a meter on whose line something was told
abbrev pub shown_now : {W : Type 0} → Bool → Meter W → Meter W
shown_now due m = record m { shown = m.shown || (due && m.in_place) }

-- what is told when one more turn is made
abbrev pub turn_text : {W : Type 0} → Meter W → List ℕ
turn_text m = told_if (is_due m 1) (told m.in_place (turns_line (sum_within m.made 1) m.all))

-- what is told at a replay's end, where the line is no longer written over: how many turns are made, unless that was told
abbrev pub last_turns_text : {W : Type 0} → Meter W → List ℕ
last_turns_text m = told_if (m.wanted && not m.in_place && not (m.untold == 0)) (told false (turns_line m.made m.all))

-- what erases a line that stands there
abbrev pub erasure_of : {W : Type 0} → Meter W → List ℕ
erasure_of m = told_if m.shown erasure

-- what is told when one more trial is made, in which so many entries are replayed, while so many are left
abbrev pub trial_text : {W : Type 0} → Meter W → ℕ → ℕ → List ℕ
trial_text m entries left = told_if (is_due m (sum_within entries 1)) (told m.in_place (entries_line left m.all (sum_within m.made 1)))

-- what is told at a shortening's end
abbrev pub last_entries_text : {W : Type 0} → Meter W → ℕ → List ℕ
last_entries_text m left = told_if m.wanted (told false (entries_line left m.all m.made))
