-- The summary of a trace.
use Rattle.std.specs.Prelude.{◌≡◌, ℕ, ◌==◌, ◌||◌, Bool, true, false, List, [], ◌∷◌, ◌++◌, length, count_by, flat_map, codes, decimal}
use Rattle.std.specs.BTreeMap.{is_at}
use Rattle.std.specs.List.{list_any}
use Rattle.std.specs.List.Sorted.{IsStrictlySortedBy}
use Rattle.std.specs.Ordering.{nat_cmp}
use Rattle.keybits.specs.declared.words.State.{State}
use Rattle.keybits.specs.declared.words.State.TheVariants as states
use Rattle.traces.specs.Text.{kind_text}
use Rattle.traceviews.specs.Lines.{kind_of}
use Rattle.traceviews.specs.Counts.{is_step_of, is_failed_of, is_reply_of, is_unfinished, longest_call}
use Rattle.traceviews.specs.Decoded.{state_text, place_text, life_text}
use Rattle.traceviews.specs.Ends.{is_end_in, AreEnds}
use Rattle.traceviews.specs.Turns.{turns_of}
use Rattle.traceviews.specs.declared.line.Line.{Line}
use Rattle.traceviews.specs.declared.line.StepName.{StepName}
use Rattle.traceviews.specs.declared.line.StepName.TheVariants as names

-- a text, and a number behind it
abbrev pub named_text : List ℕ → ℕ → List ℕ
named_text text number = text ++ decimal number

-- the names of steps, in the order of the summary
abbrev pub step_names : List StepName
step_names = names.Enter ∷ names.Leave ∷ names.Publish ∷ names.Mark ∷ names.Claim ∷ names.Link ∷ names.Push ∷ names.Take ∷ names.Follow ∷ []

-- how many steps of this name the lane makes
abbrev pub steps_text : List Line → ℕ → StepName → List ℕ
steps_text lines lane name = codes " " ++ kind_text (kind_of name) ++ named_text (codes " ") (count_by (is_step_of lane name) lines)

-- whether the lane is in the midst of a call
abbrev pub unfinished_text : Bool → List ℕ
unfinished_text true = codes " unfinished"
unfinished_text false = []

-- the line of a lane
abbrev pub lane_text : List Line → ℕ → List ℕ
lane_text lines lane =
    named_text (codes "lane ") lane ++ named_text (codes " replies ") (count_by (is_reply_of lane) lines)
    ++ named_text (codes " failed ") (count_by (is_failed_of lane) lines) ++ named_text (codes " longest call ") (longest_call lane lines)
    ++ unfinished_text (is_unfinished lane lines) ++ flat_map (steps_text lines lane) step_names ++ codes "\n"

-- the states of places, in the order of the summary
abbrev pub state_names : List State
state_names = states.Idle ∷ states.Present ∷ states.Marked ∷ states.Retired ∷ []

-- how many of the places are in this state at the end
abbrev pub state_count_text : List (ℕ × ℕ) → State → List ℕ
state_count_text ends state = codes " " ++ state_text state ++ named_text (codes " ") (count_by (is_end_in state) ends)

-- how many of the places are in which state at the end
abbrev pub states_text : List (ℕ × ℕ) → List ℕ
states_text ends = codes "places" ++ flat_map (state_count_text ends) state_names ++ codes "\n"

-- what a place is at the end, with its last word
abbrev pub place_end_text : ℕ × ℕ → List ℕ
place_end_text end = codes "place " ++ place_text end.0 ++ codes " " ++ life_text end.1 ++ codes "\n"

-- how many turns and lines there are
abbrev pub counts_line : List Line → List ℕ
counts_line lines = named_text (codes "turns ") (length (turns_of lines)) ++ named_text (codes " lines ") (length lines) ++ codes "\n"

-- the summary of some lines, with these lanes, and these places with their last words
abbrev pub summary_of : List ℕ → List (ℕ × ℕ) → List Line → List ℕ
summary_of lanes ends lines = counts_line lines ++ flat_map (lane_text lines) lanes ++ states_text ends ++ flat_map place_end_text ends

-- some line is of this lane
abbrev pub has_lane : ℕ → List Line → Bool
has_lane lane [] = false
has_lane lane (line ∷ more) = (line.lane == lane) || has_lane lane more

-- the lanes that lines are of, in rising order
pub record AreLanes (lines : List Line) (lanes : List ℕ) : Type 0 where
  pub rising : IsStrictlySortedBy nat_cmp lanes
  pub are : (lane : ℕ) → list_any (is_at (nat_cmp lane)) lanes ≡ has_lane lane lines

-- the summary of a trace: of its turns, its lanes, and its places with their last words
pub record IsSummary (lines : List Line) (text : List ℕ) : Type 0 where
  pub lanes : List ℕ
  pub are_lanes : AreLanes lines lanes
  pub ends : List (ℕ × ℕ)
  pub are_ends : AreEnds lines ends
  pub is : text ≡ summary_of lanes ends lines
