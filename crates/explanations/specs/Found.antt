-- The value at a place of a script file, with its numbers as they were typed.
use Rattle.std.specs.Prelude.{◌≡◌, ℕ, List, Option, Some, None, codes, option_and_then}
use Rattle.std.specs.Str.{IsUtf8}
use Rattle.json.specs.Json.{Json, document}
use Rattle.json.specs.Find.{get, at}
use Rattle.json.specs.Print.{print}
use Rattle.json.specs.Tree.{json_tokens}
use Rattle.scripts.specs.ScriptPlaces.{field_text}
use Rattle.scripts.specs.declared.script_place.FieldName.{FieldName}
use Rattle.scripts.specs.declared.script_place.FieldName.TheVariants as names
use Rattle.scripts.specs.declared.script_place.ScriptPlace.{ScriptPlace}
use Rattle.scripts.specs.declared.script_place.ScriptPlace.TheVariants.{File, Field, Scripts, Script, Line, Item}
use Rattle.streams.specs.Shown.{cut_text}

-- the script of a lane
abbrev pub script_at : ℕ → Json → Option Json
script_at lane whole = option_and_then (at lane) (get (codes "scripts") whole)

-- a line of a lane's script
abbrev pub command_at : ℕ → ℕ → Json → Option Json
command_at lane line whole = option_and_then (at line) (script_at lane whole)

-- an item of a line
abbrev pub item_at : ℕ → ℕ → ℕ → Json → Option Json
item_at lane line item whole = option_and_then (at item) (command_at lane line whole)

-- a field of the shape
abbrev pub in_shape : List ℕ → Json → Option Json
in_shape name whole = option_and_then (get name) (get (codes "shape") whole)

-- a field of the file or of its shape
abbrev pub field_at : FieldName → Json → Option Json
field_at names.Shape whole = get (codes "shape") whole
field_at names.Scripts whole = get (codes "scripts") whole
field_at names.Lanes whole = in_shape (field_text names.Lanes) whole
field_at names.FirstPage whole = in_shape (field_text names.FirstPage) whole
field_at names.Pages whole = in_shape (field_text names.Pages) whole
field_at names.LastGeneration whole = in_shape (field_text names.LastGeneration) whole
field_at names.Tag whole = in_shape (field_text names.Tag) whole

-- the value at a place; of the file as a whole none is told
abbrev pub value_of : ScriptPlace → Json → Option Json
value_of File whole = None
value_of (Field name) whole = field_at name whole
value_of Scripts whole = get (codes "scripts") whole
value_of (Script lane) whole = script_at lane whole
value_of (Line lane line) whole = command_at lane line whole
value_of (Item lane line item) whole = item_at lane line item whole

-- the text of a value: its tokens without spaces between them, each number as it was typed
abbrev pub value_text : Json → List ℕ
value_text found = print (json_tokens found)

-- what is shown of a value; `it` stands where there is none
abbrev pub shown_value : Option Json → List ℕ
shown_value None = codes "it"
shown_value (Some found) = cut_text (value_text found)

-- the value that a JSON text has, which is text in UTF-8
pub record IsValueOf (file : List ℕ) (whole : Json) : Type 0 where
  pub utf8 : IsUtf8 file
  pub reads : document file ≡ Some whole
