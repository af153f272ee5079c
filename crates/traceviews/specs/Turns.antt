-- The lines of a trace, put together to turns.
use Rattle.std.specs.Prelude.{◌≡◌, ℕ, ◌<◌, ◌==◌, ◌&&◌, ◌||◌, not, Bool, List, [], ◌∷◌, ◌++◌, length, if◌then◌else◌}
use Rattle.traceviews.specs.Counts.{is_step}
use Rattle.traceviews.specs.declared.line.Line.{Line}

-- a line goes on a turn of this lane, which has a step already or not: it is of the lane, and no second step
abbrev pub goes_on : ℕ → Bool → Line → Bool
goes_on lane stepped line = (line.lane == lane) && not (stepped && is_step line.entry)

-- a turn of a lane with these lines so far, and a step among them or not, goes on with these lines; then come the turns of those left
abbrev pub turns_from : List Line → ℕ → Bool → List Line → List (List Line)
turns_from turn lane stepped [] = turn ∷ []
turns_from turn lane stepped (line ∷ more) =
    if goes_on lane stepped line then turns_from (turn ++ line ∷ []) lane (stepped || is_step line.entry) more
    else turn ∷ turns_from (line ∷ []) line.lane (is_step line.entry) more

-- the turns of some lines
abbrev pub turns_of : List Line → List (List Line)
turns_of [] = []
turns_of (line ∷ more) = turns_from (line ∷ []) line.lane (is_step line.entry) more

-- the first turn of some lines, and the lines behind it
pub record IsFirstTurn (lines turn behind : List Line) : Type 0 where
  pub parts : lines ≡ turn ++ behind
  pub shorter : length behind < length lines
  pub turns : turns_of lines ≡ turn ∷ turns_of behind

-- the lane of a turn
abbrev pub lane_of : List Line → ℕ
lane_of [] = 0
lane_of (line ∷ more) = line.lane

-- the replies of a turn before its step
abbrev pub front : List Line → List Line
front [] = []
front (line ∷ more) = if is_step line.entry then [] else line ∷ front more

-- the lines of a turn from its step on
abbrev pub behind : List Line → List Line
behind [] = []
behind (line ∷ more) = if is_step line.entry then line ∷ more else behind more
