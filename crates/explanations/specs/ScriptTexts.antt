-- Why a script file is refused, in words.
use Rattle.std.specs.Prelude.{◌≡◌, ◌⊎◌, ◌==◌, ◌||◌, ℕ, Bool, true, false, List, ◌++◌, drop, Option, Some, None, codes}
use Rattle.std.specs.Str.{IsUtf8}
use Rattle.json.specs.Json.{Json, null, document}
use Rattle.json.specs.Json as json
use Rattle.scripts.specs.declared.script_fault.ScriptFault.{ScriptFault}
use Rattle.scripts.specs.declared.script_fault.ScriptFault.TheVariants as faults
use Rattle.scripts.specs.declared.script_place.ScriptPlace.{ScriptPlace}
use Rattle.scripts.specs.declared.script_place.ScriptPlace.TheVariants.{Line, Item}
use Rattle.scripts.specs.declared.script_refusal.ScriptRefusal.{ScriptRefusal}
use Rattle.streams.specs.Shown.{line_text}
use Rattle.explanations.specs.Found.{command_at, value_of, shown_value, IsValueOf}
use Rattle.explanations.specs.JsonFaults.{first_of, begins_number, ExplainsJson}
use Rattle.explanations.specs.Places.{line_number, place_text}
use Rattle.explanations.specs.Wanted.{script_wanted}

-- what is told of a refusal, of a file with this value, in which what it names begins in this line, where that is known: the place, what stands there, and what is wanted
abbrev pub script_told : ScriptRefusal → Json → Option ℕ → List ℕ
script_told refusal whole number =
    place_text number refusal.place ++ codes ": " ++ shown_value (value_of refusal.place whole) ++ codes " "
    ++ script_wanted refusal.fault refusal.place whole

-- bytes have this value; it is null where they are no JSON text
abbrev pub HasValue : List ℕ → Json → Type 0
HasValue file whole = IsValueOf file whole ⊎ ((IsUtf8 file → document file ≡ None) × (whole ≡ null))

-- the text of a value begins with this byte
abbrev pub begins_with : Json → ℕ → Bool
begins_with json.null byte = byte == 110
begins_with (json.boolean truth) byte = (byte == 116) || (byte == 102)
begins_with (json.number text) byte = begins_number (Some byte)
begins_with (json.string text) byte = byte == 34
begins_with (json.array items) byte = byte == 91
begins_with (json.object _) byte = byte == 123

-- it does with this, if it is one
abbrev pub begins : Json → Option ℕ → Bool
begins value None = false
begins value (Some byte) = begins_with value byte

-- the line of a script that a place is, or is in
abbrev pub line_at : ScriptPlace → Json → Option Json
line_at (Line lane line) whole = command_at lane line whole
line_at (Item lane line item) whole = command_at lane line whole
line_at place whole = None

-- the line of a script, if it is one, may begin here
abbrev pub may_begin : Option Json → List ℕ → Bool
may_begin None rest = true
may_begin (Some line) rest = begins line (first_of rest)

-- the line of the file in which what begins here does, where it may
abbrev pub number_if : Bool → ℕ → List ℕ → Option ℕ
number_if true begin file = Some (line_number begin file)
number_if false begin file = None

-- the text explains a refusal by the value of the file; if it names a line of the file, a line of a script begins there
pub record ExplainsValue (file : List ℕ) (refusal : ScriptRefusal) (text : List ℕ) : Type 0 where
  pub whole : Json
  pub has : HasValue file whole
  pub begin : ℕ
  pub is : text ≡ line_text (script_told refusal whole (number_if (may_begin (line_at refusal.place whole) (drop begin file)) begin file))

-- the text explains why a script file is refused with this fault: as no JSON text, by its place; else by the file's value
abbrev pub ExplainsFault : ScriptFault → List ℕ → ScriptRefusal → List ℕ → Type 0
ExplainsFault faults.NotJson file refusal text = ExplainsJson file text
ExplainsFault fault file refusal text = ExplainsValue file refusal text

-- the text explains why a script file is refused
abbrev pub ExplainsScript : List ℕ → ScriptRefusal → List ℕ → Type 0
ExplainsScript file refusal text = ExplainsFault refusal.fault file refusal text
