-- What is wanted at a place of a script file.
use Rattle.std.specs.Prelude.{ℕ, ◌==◌, Bool, true, false, List, ◌++◌, Option, Some, None, if◌then◌else◌, option_and_then, option_map, unwrap_or, decimal, codes, suc}
use Rattle.std.specs.Str.{bytes_eq}
use Rattle.json.specs.Json.{Json}
use Rattle.json.specs.Json as json
use Rattle.json.specs.Find.{at, as_str, as_array, as_object, get}
use Rattle.keybits.specs.declared.shape.ShapeFault.{ShapeFault}
use Rattle.keybits.specs.declared.shape.ShapeFault.TheVariants as shapes
use Rattle.scripts.specs.CommandNames.{command_name_of}
use Rattle.scripts.specs.declared.command_name.CommandName.{CommandName}
use Rattle.scripts.specs.declared.command_name.CommandName.TheVariants.{Create, Write, Publish, Downgrade, Get, Read, Release, Clear}
use Rattle.scripts.specs.declared.script_fault.ScriptFault.{ScriptFault}
use Rattle.scripts.specs.declared.script_fault.ScriptFault.TheVariants as faults
use Rattle.scripts.specs.declared.script_place.FieldName.{FieldName}
use Rattle.scripts.specs.declared.script_place.FieldName.TheVariants as names
use Rattle.scripts.specs.declared.script_place.ScriptPlace.{ScriptPlace}
use Rattle.scripts.specs.declared.script_place.ScriptPlace.TheVariants as places
use Rattle.streams.specs.Shown.{cut_text}
use Rattle.explanations.specs.declared.wanted.Owner.{Owner}
use Rattle.explanations.specs.declared.wanted.Owner.TheVariants.{File, Shape}
use Rattle.explanations.specs.Found.{value_of, field_at, shown_value}

-- what a number of a shape is not that has this fault
abbrev pub shape_wanted : ShapeFault → List ℕ
shape_wanted shapes.Lanes = codes "is not 1 to 16"
shape_wanted shapes.FirstPage = codes "is not 1, 2, 4, 8, 16, 32 or 64"
shape_wanted shapes.Pages = codes "is not 1 to 6"
shape_wanted shapes.Generation = codes "is not 1 to 4294967295"
shape_wanted shapes.Tag = codes "is not 0 to 255"

-- ---- fields

-- a field of the file, or of its shape, has this name
abbrev pub is_known : Owner → List ℕ → Bool
is_known Shape name =
    if bytes_eq name (codes "lanes") then true else
    (if bytes_eq name (codes "first_page") then true else
    (if bytes_eq name (codes "pages") then true else
    (if bytes_eq name (codes "last_generation") then true else
    (if bytes_eq name (codes "tag") then true else false))))
is_known File name = if bytes_eq name (codes "shape") then true else (if bytes_eq name (codes "scripts") then true else false)

-- the first of these members that isn't known, by its name
abbrev pub extra_in : Owner → json.Members → Option (List ℕ)
extra_in owner json.no_members = None
extra_in owner (json.member name value more) = if is_known owner name then extra_in owner more else Some name

-- the first field of an object that isn't known, by its name
abbrev pub extra_of : Owner → Json → Option (List ℕ)
extra_of owner value = option_and_then (extra_in owner) (as_object value)

-- the fields of a file, and of its shape
abbrev pub known_text : Owner → List ℕ
known_text File = codes "shape and scripts, and no other"
known_text Shape = codes "lanes, first_page, pages and last_generation, perhaps tag, and no other"

-- what is wrong with a value that isn't an object with just these fields: it has another, or it lacks some or is no object
abbrev pub extra_told : List ℕ → Option (List ℕ) → List ℕ
extra_told fields None = codes "is no object with the fields " ++ fields
extra_told fields (Some name) = codes "has the field \"" ++ cut_text name ++ codes "\"; its fields are " ++ fields

-- the same, by the value
abbrev pub object_told : Owner → Json → List ℕ
object_told owner value = extra_told (known_text owner) (extra_of owner value)

-- a field that isn't known beside a field that is missing: the first of the file, or of its shape
abbrev pub stray_of : FieldName → Json → Option (List ℕ)
stray_of names.Shape whole = extra_of File whole
stray_of names.Scripts whole = extra_of File whole
stray_of name whole = option_and_then (extra_of Shape) (get (codes "shape") whole)

-- that a field is missing, where there is this one, or none, that isn't known
abbrev pub missing_told : Option (List ℕ) → List ℕ
missing_told None = codes "is missing"
missing_told (Some stray) = codes "is missing; there is \"" ++ cut_text stray ++ codes "\""

-- what is wrong with a field of a file with this value, by the value that it has itself
abbrev pub named_wanted : FieldName → Json → Option Json → List ℕ
named_wanted names.Shape whole (Some found) = object_told Shape found
named_wanted names.Scripts whole (Some found) = codes "is no list of scripts"
named_wanted name whole found = missing_told (stray_of name whole)

-- how many items there are
abbrev pub items_count : json.Items → ℕ
items_count json.no_items = 0
items_count (json.item first more) = suc (items_count more)

-- how many items a value has; none where it is no list
abbrev pub item_count : Json → ℕ
item_count value = unwrap_or (option_map items_count (as_array value)) 0

-- how many scripts a file has
abbrev pub script_count : Json → ℕ
script_count whole = unwrap_or (option_map item_count (get (codes "scripts") whole)) 0

-- that there isn't one script for each lane: how many there are of both
abbrev pub counts_told : Json → List ℕ
counts_told whole =
    codes "has not one script for each lane of the shape: scripts " ++ decimal (script_count whole) ++ codes ", lanes "
    ++ shown_value (field_at names.Lanes whole)

-- ---- commands and their operands

-- the form of a command
abbrev pub form_text : CommandName → List ℕ
form_text Create = codes "create R"
form_text Write = codes "write R BYTES"
form_text Publish = codes "publish R"
form_text Downgrade = codes "downgrade R"
form_text Get = codes "get R KEY"
form_text Read = codes "read R"
form_text Release = codes "release R"
form_text Clear = codes "clear KEY"

-- the command that a line names
abbrev pub name_in : Option Json → Option CommandName
name_in line = option_and_then command_name_of (option_and_then as_str (option_and_then (at 0) line))

-- what is wrong with a line that names this command, which has other operands; or that names none
abbrev pub line_wanted : Option CommandName → List ℕ
line_wanted (Some name) = codes "has not the operands of its command: " ++ form_text name
line_wanted None =
    codes "is no list of a command and its operands: create R, write R BYTES, publish R, downgrade R, get R KEY, read R, release R, clear KEY"

abbrev pub register_wanted : List ℕ
register_wanted = codes "is no register: a number of 0 to 15"

abbrev pub key_wanted : List ℕ
key_wanted = codes "is no key: a whole number of at most 18446744073709551615, or a text of @ and a register, as \"@0\""

abbrev pub bytes_wanted : List ℕ
bytes_wanted = codes "are no bytes: pairs of hexadecimal digits in quotes"

-- what the operand of this number of a command isn't
abbrev pub operand_wanted : Option CommandName → ℕ → List ℕ
operand_wanted (Some Write) item = if item == 2 then bytes_wanted else register_wanted
operand_wanted (Some Get) item = if item == 2 then key_wanted else register_wanted
operand_wanted (Some Clear) item = key_wanted
operand_wanted name item = register_wanted

-- ---- by the place

-- what is wrong where a field, a list or a line is none, or has too much or too little
abbrev pub field_wanted : ScriptPlace → Json → List ℕ
field_wanted places.File whole = object_told File whole
field_wanted (places.Field name) whole = named_wanted name whole (field_at name whole)
field_wanted places.Scripts whole = counts_told whole
field_wanted (places.Script lane) whole = codes "is no list of commands"
field_wanted (places.Line lane line) whole = line_wanted (name_in (value_of (places.Line lane line) whole))
field_wanted (places.Item lane line item) whole = codes
    "is no text; commands are create, write, publish, downgrade, get, read, release, clear"

-- what is wrong where a number, a register or bytes are none
abbrev pub number_wanted : ScriptPlace → Json → List ℕ
number_wanted (places.Item lane line item) whole = operand_wanted (name_in (value_of (places.Line lane line) whole)) item
number_wanted place whole = codes "is no whole number of at most 4294967295"

-- what is wrong at a place of a file with this value
abbrev pub script_wanted : ScriptFault → ScriptPlace → Json → List ℕ
script_wanted faults.NotJson place whole = codes "is no JSON text"
script_wanted faults.Field place whole = field_wanted place whole
script_wanted faults.Act place whole = codes "is no command; commands are create, write, publish, downgrade, get, read, release, clear"
script_wanted faults.Register place whole = number_wanted place whole
script_wanted faults.Number place whole = number_wanted place whole
script_wanted (faults.Shape fault) place whole = shape_wanted fault
script_wanted faults.Memory place whole = codes "found no memory"
