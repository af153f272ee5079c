-- The calls of the lanes as slices of the trace-event form.
use Rattle.std.specs.Prelude.{ℕ, ◌+◌, ◌-◌, ◌==◌, nat_lt, Bool, true, false, List, [], ◌∷◌, ◌++◌, Option, Some, None, codes, decimal, if◌then◌else◌}
use Rattle.keybits.specs.Words.{count_in}
use Rattle.traces.specs.declared.reply.Reply.{Reply}
use Rattle.traces.specs.declared.reply.Reply.TheVariants as replies
use Rattle.traceviews.specs.Json.{entry_object}
use Rattle.traceviews.specs.Tracks.{track_fields}
use Rattle.traceviews.specs.Turns.{turns_of, lane_of, behind}
use Rattle.traceviews.specs.declared.line.Entry.{Entry}
use Rattle.traceviews.specs.declared.line.Entry.TheVariants as entries
use Rattle.traceviews.specs.declared.line.Line.{Line}

-- a step leaves one more in the count
abbrev pub is_counted : Entry → Bool
is_counted (entries.Step s) = nat_lt (count_in s.before) (count_in s.after)
is_counted (entries.Reply r) = false

-- what a call is called that made this step last, and replied so
abbrev pub call_title : Entry → Reply → List ℕ
call_title last (replies.Filling key) = codes "create"
call_title last (replies.Key key) = if is_counted last then codes "downgrade" else codes "publish"
call_title last (replies.Found content) = codes "get"
call_title last (replies.Content content) = codes "call"
call_title last replies.Full = codes "create"
call_title last replies.Memory = codes "create"
call_title last replies.Done = codes "release"
call_title last replies.Missing = codes "get"
call_title last (replies.Cleared marked) = codes "clear"
call_title last replies.Skip = codes "call"

abbrev pub ended_title : Entry → Entry → List ℕ
ended_title last (entries.Step s) = codes "call"
ended_title last (entries.Reply r) = call_title last r

-- the slice of a call up to its arguments: it begins at this turn, and lasts so many
abbrev pub call_head : ℕ → ℕ → ℕ → List ℕ → List ℕ
call_head lane begun lasts name =
    (codes ",\n{\"ph\":\"X\",\"dur\":" ++ decimal lasts) ++ track_fields lane begun ++ codes ",\"name\":\"" ++ name ++ codes "\",\"args\":"

-- the slice of a call that ends at a turn with this step and this reply, which is its argument
abbrev pub ended_call : ℕ → ℕ → ℕ → Entry → Entry → List ℕ
ended_call lane begun number last reply =
    call_head lane begun (number + 1 - begun) (ended_title last reply) ++ entry_object reply ++ codes "}"

-- the slice of a call without a reply, up to the last turn of the trace
abbrev pub open_call : ℕ → Option ℕ → ℕ → List ℕ
open_call lane None number = []
open_call lane (Some begun) number = call_head lane begun (number - begun) (codes "unfinished") ++ codes "{}}"

-- at which turn the call of a step began: at an earlier one, or at that of the step
abbrev pub since : Option ℕ → ℕ → ℕ
since None number = number
since (Some begun) number = begun

-- the call that began at this turn and ends with this step, by the lines behind it: it does where one is, a reply
abbrev pub end_of : ℕ → ℕ → ℕ → Line → List Line → List ℕ
end_of lane begun number step [] = []
end_of lane begun number step (reply ∷ more) = ended_call lane begun number step.entry reply.entry

-- at which turn the call began that is then under way
abbrev pub open_behind : ℕ → List Line → Option ℕ
open_behind begun [] = Some begun
open_behind begun (reply ∷ more) = None

-- both of them, by the lines of a turn from its step on
abbrev pub end_at : ℕ → Option ℕ → ℕ → List Line → List ℕ
end_at lane begun number [] = []
end_at lane begun number (step ∷ more) = end_of lane (since begun number) number step more

abbrev pub begun_at : Option ℕ → ℕ → List Line → Option ℕ
begun_at begun number [] = begun
begun_at begun number (step ∷ more) = open_behind (since begun number) more

-- both of them, for a turn of any lane
abbrev pub call_at : ℕ → Option ℕ → ℕ → List Line → List ℕ
call_at lane begun number turn = if lane_of turn == lane then end_at lane begun number (behind turn) else []

abbrev pub begun_behind : ℕ → Option ℕ → ℕ → List Line → Option ℕ
begun_behind lane begun number turn = if lane_of turn == lane then begun_at begun number (behind turn) else begun

-- the calls of a lane in these turns, the first of which has this number; one may be under way before them
abbrev pub calls_from : ℕ → Option ℕ → ℕ → List (List Line) → List ℕ
calls_from lane begun number [] = open_call lane begun number
calls_from lane begun number (turn ∷ more) =
    call_at lane begun number turn ++ calls_from lane (begun_behind lane begun number turn) (number + 1) more

-- the calls of a lane in a trace
abbrev pub lane_calls : List Line → ℕ → List ℕ
lane_calls lines lane = calls_from lane None 0 (turns_of lines)
