-- What is counted in a trace.
use Rattle.std.specs.Prelude.{ℕ, ◌+◌, ◌==◌, ◌&&◌, max, Bool, true, false, List, [], ◌∷◌, if◌then◌else◌}
use Rattle.traceviews.specs.declared.line.Entry.{Entry}
use Rattle.traceviews.specs.declared.line.Entry.TheVariants as entries
use Rattle.traceviews.specs.declared.line.Line.{Line}
use Rattle.traceviews.specs.declared.line.StepName.{StepName}
use Rattle.traceviews.specs.declared.line.StepName.TheVariants as names
use Rattle.traceviews.specs.Decoded.{is_failed}

-- two names are the same
abbrev pub name_number : StepName → ℕ
name_number names.Enter = 0
name_number names.Leave = 1
name_number names.Publish = 2
name_number names.Mark = 3
name_number names.Claim = 4
name_number names.Link = 5
name_number names.Push = 6
name_number names.Take = 7
name_number names.Follow = 8

-- the entry is a step
abbrev pub is_step : Entry → Bool
is_step (entries.Step s) = true
is_step (entries.Reply r) = false

-- the entry is a step of this name
abbrev pub is_named : StepName → Entry → Bool
is_named name (entries.Step s) = name_number s.name == name_number name
is_named name (entries.Reply r) = false

-- the entry is a step that failed
abbrev pub is_failed_step : Entry → Bool
is_failed_step (entries.Step s) = is_failed s
is_failed_step (entries.Reply r) = false

-- the entry is a reply
abbrev pub is_reply : Entry → Bool
is_reply (entries.Step s) = false
is_reply (entries.Reply r) = true

-- the line is a step of this lane and this name
abbrev pub is_step_of : ℕ → StepName → Line → Bool
is_step_of lane name line = (line.lane == lane) && is_named name line.entry

-- the line is a step of this lane that failed
abbrev pub is_failed_of : ℕ → Line → Bool
is_failed_of lane line = (line.lane == lane) && is_failed_step line.entry

-- the line is a reply of this lane
abbrev pub is_reply_of : ℕ → Line → Bool
is_reply_of lane line = (line.lane == lane) && is_reply line.entry

-- whether the lane is in the midst of a call behind a line: behind a step of its own it is, and behind a reply it isn't
abbrev pub unfinished_after : Bool → ℕ → Line → Bool
unfinished_after before lane line = if line.lane == lane then is_step line.entry else before

-- whether it is behind some lines
abbrev pub unfinished_from : Bool → ℕ → List Line → Bool
unfinished_from before lane [] = before
unfinished_from before lane (line ∷ more) = unfinished_from (unfinished_after before lane line) lane more

-- the lane's last line, where it has one, is a step
abbrev pub is_unfinished : ℕ → List Line → Bool
is_unfinished lane lines = unfinished_from false lane lines

-- how many steps a call has made after this line: a reply ends it
abbrev pub steps_after : ℕ → ℕ → Line → ℕ
steps_after steps lane line = if line.lane == lane then (if is_step line.entry then steps + 1 else 0) else steps

-- the greatest number of steps of a lane without a reply between them, where its call has made so many before these lines
abbrev pub longest_from : ℕ → ℕ → List Line → ℕ
longest_from steps lane [] = steps
longest_from steps lane (line ∷ more) = max steps (longest_from (steps_after steps lane line) lane more)

-- the greatest number of steps of a call of the lane
abbrev pub longest_call : ℕ → List Line → ℕ
longest_call lane lines = longest_from 0 lane lines
