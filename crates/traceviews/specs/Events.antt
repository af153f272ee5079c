-- A trace in the trace-event form, which Chrome's viewer and Perfetto open.
use Rattle.std.specs.Prelude.{◌≡◌, ℕ, ◌+◌, ◌==◌, Bool, true, false, List, [], ◌∷◌, ◌++◌, flat_map, codes, decimal, if◌then◌else◌}
use Rattle.keybits.specs.Keys.{key_number}
use Rattle.keybits.specs.Words.{state_in, generation_in}
use Rattle.keybits.specs.declared.step.Word.{Word}
use Rattle.keybits.specs.declared.step.Word.TheVariants as words
use Rattle.traces.specs.Text.{kind_text}
use Rattle.traceviews.specs.Calls.{lane_calls}
use Rattle.traceviews.specs.Decoded.{aim_text, is_failed}
use Rattle.traceviews.specs.Json.{turn_object}
use Rattle.traceviews.specs.Lines.{kind_of}
use Rattle.traceviews.specs.Numbered.{numbered}
use Rattle.traceviews.specs.Summaries.{AreLanes}
use Rattle.traceviews.specs.Tracks.{track_fields}
use Rattle.traceviews.specs.Turns.{turns_of, lane_of, behind}
use Rattle.traceviews.specs.declared.line.Entry.{Entry}
use Rattle.traceviews.specs.declared.line.Entry.TheVariants as entries
use Rattle.traceviews.specs.declared.line.Line.{Line}
use Rattle.traceviews.specs.declared.line.NamedStep.{NamedStep}
use Rattle.traceviews.specs.declared.line.StepName.{StepName}
use Rattle.traceviews.specs.declared.line.StepName.TheVariants as names

-- the name of a lane's track
abbrev pub lane_event : ℕ → List ℕ
lane_event lane =
    (codes ",\n{\"ph\":\"M\",\"pid\":1,\"name\":\"thread_name\",\"tid\":" ++ decimal (lane + 1))
    ++ (codes ",\"args\":{\"name\":\"lane " ++ decimal lane) ++ codes "\"}}"

-- the end of a failed step's name
abbrev pub failed_end : Bool → List ℕ
failed_end true = codes " failed"
failed_end false = []

-- what a step is called
abbrev pub step_title : NamedStep → List ℕ
step_title s = kind_text (kind_of s.name) ++ codes " " ++ aim_text s.word ++ failed_end (is_failed s)

-- what an entry is called
abbrev pub entry_title : Entry → List ℕ
entry_title (entries.Step s) = step_title s
entry_title (entries.Reply r) = codes "replies"

-- what a turn is called, by its lines from its step on
abbrev pub turn_title : List Line → List ℕ
turn_title [] = codes "replies"
turn_title (line ∷ more) = entry_title line.entry

-- the slice of a turn, with the turn's object as its arguments
abbrev pub slice_event : ℕ → List Line → List ℕ
slice_event number turn =
    codes ",\n{\"ph\":\"X\",\"dur\":1" ++ track_fields (lane_of turn) number ++ codes ",\"name\":\"" ++ turn_title (behind turn)
    ++ codes "\",\"args\":" ++ turn_object number turn ++ codes "}"

-- an end of a flow, on the track of a lane at a turn: that of the object that has this number
abbrev pub flow_event : List ℕ → ℕ → ℕ → ℕ → List ℕ
flow_event kind lane number object =
    kind ++ track_fields lane number ++ (codes ",\"cat\":\"object\",\"name\":\"object\",\"id\":" ++ decimal object) ++ codes "}"

-- the number of the object at a place in a generation
abbrev pub object_of : ℕ → ℕ → ℕ
object_of place word = key_number 0 place (generation_in word)

-- a publish begins the flow of its object, and the mark that finds it PRESENT ends it
abbrev pub flow_at : ℕ → ℕ → StepName → ℕ → ℕ → ℕ → List ℕ
flow_at lane number names.Publish place before after = flow_event (codes ",\n{\"ph\":\"s\"") lane number (object_of place after)
flow_at lane number names.Mark place before after =
    if state_in before == 1 then flow_event (codes ",\n{\"ph\":\"f\",\"bp\":\"e\"") lane number (object_of place after) else []
flow_at lane number names.Enter place before after = []
flow_at lane number names.Leave place before after = []
flow_at lane number names.Claim place before after = []
flow_at lane number names.Link place before after = []
flow_at lane number names.Push place before after = []
flow_at lane number names.Take place before after = []
flow_at lane number names.Follow place before after = []

abbrev pub flow_on : ℕ → ℕ → StepName → Word → ℕ → ℕ → List ℕ
flow_on lane number name (words.Life place) before after = flow_at lane number name place before after
flow_on lane number name (words.Link place) before after = []
flow_on lane number name (words.Stack shard returner) before after = []

abbrev pub flow_of : ℕ → ℕ → Entry → List ℕ
flow_of lane number (entries.Step s) = flow_on lane number s.name s.word s.before s.after
flow_of lane number (entries.Reply r) = []

-- the end of a flow at a turn, by its lines from its step on
abbrev pub turn_flow : ℕ → ℕ → List Line → List ℕ
turn_flow lane number [] = []
turn_flow lane number (line ∷ more) = flow_of lane number line.entry

-- the events of a turn
abbrev pub turn_events : ℕ → List Line → List ℕ
turn_events number turn = slice_event number turn ++ turn_flow (lane_of turn) number (behind turn)

-- the events of a trace with these lanes: a track for each lane, a slice for each call, lane by lane, and a slice for each turn
abbrev pub events_of : List ℕ → List Line → List ℕ
events_of lanes lines =
    codes "[\n{\"ph\":\"M\",\"pid\":1,\"name\":\"process_name\",\"args\":{\"name\":\"pool\"}}" ++ flat_map lane_event lanes
    ++ flat_map (lane_calls lines) lanes
    ++ numbered turn_events 0 (turns_of lines) ++ codes "\n]\n"

-- the text has the events of a trace
pub record AreEvents (lines : List Line) (text : List ℕ) : Type 0 where
  pub lanes : List ℕ
  pub are_lanes : AreLanes lines lanes
  pub is : text ≡ events_of lanes lines
