-- What the value of a script file stands for: a shape and one script for each lane, or else the first fault that is found, with its place.
use Rattle.std.specs.Prelude.{◌==◌, ◌&&◌, ◌||◌, ◌+◌, ℕ, List, [], ◌∷◌, length, Bool, Option, Some, None, Result, Ok, Err, if◌then◌else◌, option_map, option_and_then, unwrap_or, ok_or, is_some, false}
use Rattle.std.specs.Option.{option_or}
use Rattle.std.specs.Result.{result_ok}
use Rattle.std.proofs.Math.Decide.{dec_lt}
use Rattle.std.proofs.Math.Logic.{dite}
use Rattle.keybits.specs.declared.shape.Shape.{Shape}
use Rattle.traces.specs.declared.script.Register.{Register}
use Rattle.traces.specs.declared.script.Operand.{Operand}
use Rattle.traces.specs.declared.script.Operand.TheVariants as operands
use Rattle.traces.specs.declared.script.Command.{Command}
use Rattle.traces.specs.declared.script.Command.TheVariants as commands
use Rattle.hex.specs.Hex.{decode_of}
use Rattle.serde_json.specs.Data.{Data, Items, no_items, item}
use Rattle.serde_json.specs.Events.{members_len}
use Rattle.serde_json.specs.Find.{get, as_number, as_str, as_array, as_object, as_u64}
use Rattle.scripts.specs.declared.command_name.CommandName.{CommandName}
use Rattle.scripts.specs.declared.command_name.CommandName.TheVariants.{Create, Write, Publish, Downgrade, Get, Read, Release, Clear}
use Rattle.scripts.specs.declared.script_fault.ScriptFault.TheVariants as faults
use Rattle.scripts.specs.declared.script_place.FieldName.{FieldName}
use Rattle.scripts.specs.declared.script_place.FieldName.TheVariants as names
use Rattle.scripts.specs.declared.script_place.ScriptPlace.{ScriptPlace}
use Rattle.scripts.specs.declared.script_place.ScriptPlace.TheVariants as places
use Rattle.scripts.specs.declared.script_refusal.ScriptRefusal.{ScriptRefusal}
use Rattle.schedules.specs.Numbers.{digit_of, at_most}
use Rattle.scripts.specs.CommandNames.{command_name_of}
use Rattle.scripts.specs.ScriptPlaces.{field_text, refusal}

infixl 10 ◌>>=◌
-- what is read next; the first refusal ends the reading
abbrev pub ◌>>=◌ : {A B : Type 0} → Result A ScriptRefusal → (A → Result B ScriptRefusal) → Result B ScriptRefusal
(Ok x) >>= f = f x
(Err refused) >>= f = Err refused

-- a whole number, which is written without a point, an exponent or a minus sign, and is at most 18446744073709551615
abbrev pub whole_of : Data → Option ℕ
whole_of d = option_and_then as_u64 (as_number d)

-- the items of an array, as a list
abbrev pub list_of : Items → List Data
list_of no_items = []
list_of (item d more) = d ∷ list_of more

-- the items of a value at this place that is an array; another is Field
abbrev pub items_of : ScriptPlace → Data → Result (List Data) ScriptRefusal
items_of place d = ok_or (option_map list_of (as_array d)) (refusal faults.Field place)

-- each item, in order, counted from this number on
abbrev pub each_of : {T : Type 0} → (ℕ → Data → Result T ScriptRefusal) → ℕ → List Data → Result (List T) ScriptRefusal
each_of read number [] = Ok []
each_of read number (d ∷ more) = do
  x ← read number d
  xs ← each_of read (number + 1) more
  Ok (x ∷ xs)

-- ---- the shape

-- whether it is an object of so many fields; an object has each of its fields once
abbrev pub has_fields : ℕ → Data → Bool
has_fields count d = unwrap_or (option_map (λ fields. members_len fields == count) (as_object d)) false

-- whether it has this field
abbrev pub has_field : FieldName → Data → Bool
has_field name d = is_some (get (field_text name) d)

-- nothing, where this holds; else Field at this place
abbrev pub holds : ScriptPlace → Bool → Result (Unit {0}) ScriptRefusal
holds place told = if told then Ok tt else Err (refusal faults.Field place)

-- this field; Field there where it is missing
abbrev pub field_of : FieldName → Data → Result Data ScriptRefusal
field_of name d = ok_or (get (field_text name) d) (refusal faults.Field (places.Field name))

-- nothing, where it is an object with exactly the fields of a shape: these four, or these and the tag
abbrev pub shape_fields_of : Data → Result (Unit {0}) ScriptRefusal
shape_fields_of d = do
  object ← holds (places.Field names.Shape) (is_some (as_object d))
  lanes ← field_of names.Lanes d
  first_page ← field_of names.FirstPage d
  pages ← field_of names.Pages d
  last_generation ← field_of names.LastGeneration d
  holds (places.Field names.Shape) (has_fields 4 d || (has_fields 5 d && has_field names.Tag d))

-- this field, which is a whole number from 0 to 4294967295; else Number there
abbrev pub number_at : FieldName → Data → Result ℕ ScriptRefusal
number_at name d =
    ok_or (option_and_then (at_most 4294967295) (option_and_then whole_of (get (field_text name) d)))
    (refusal faults.Number (places.Field name))

-- the tag, which is 0 where there is no such field
abbrev pub tag_of : Data → Result ℕ ScriptRefusal
tag_of d = if has_field names.Tag d then number_at names.Tag d else Ok 0

-- the shape of an object with its fields: first the four numbers, then the tag
abbrev pub shape_of : Data → Result Shape ScriptRefusal
shape_of d = do
  lanes ← number_at names.Lanes d
  first_page ← number_at names.FirstPage d
  pages ← number_at names.Pages d
  last_generation ← number_at names.LastGeneration d
  tag ← tag_of d
  Ok (record { lanes = lanes; first_page = first_page; pages = pages; last_generation = last_generation; tag = tag; guests = 0 })

-- the fields of a file, which is an object with exactly these: `shape`, an object with exactly a shape's, and the items of `scripts`, an array
abbrev pub fields_of : Data → Result (Data × List Data) ScriptRefusal
fields_of d = do
  object ← holds places.File (is_some (as_object d))
  shape ← field_of names.Shape d
  scripts ← field_of names.Scripts d
  both ← holds places.File (has_fields 2 d)
  whole ← shape_fields_of shape
  items ← items_of (places.Field names.Scripts) scripts
  Ok (shape, items)

-- the shape of a file, which is still to be checked, and the items of its scripts
abbrev pub file_of : Data → Result (Shape × List Data) ScriptRefusal
file_of d = do
  fields ← fields_of d
  shape ← shape_of fields.0
  Ok (shape, fields.1)

-- ---- operands, each at its place

-- the register of this number, 0 to 15
abbrev pub register_at : ℕ → Option Register
register_at n = dite (dec_lt n 16) (λ small. Some (record { number = n; small = small })) (λ _. None)

-- a register, which is its number; another value is Register
abbrev pub register_of : ScriptPlace → Data → Result Register ScriptRefusal
register_of place d = ok_or (option_and_then register_at (whole_of d)) (refusal faults.Register place)

-- the register that a text names: @ and its number, as one digit, or as a 1 and a digit behind it
abbrev pub register_named : List ℕ → Option Register
register_named (at ∷ digit ∷ []) = if at == 64 then option_and_then register_at (digit_of digit) else None
register_named (at ∷ one ∷ digit ∷ []) =
    if at == 64 && one == 49 then option_and_then (λ n. register_at (10 + n)) (digit_of digit) else None
register_named text = None

-- the key that a text names: the last of a register; another text is Register
abbrev pub key_named : ScriptPlace → List ℕ → Result Operand ScriptRefusal
key_named place text = ok_or (option_map operands.LastOf (register_named text)) (refusal faults.Register place)

-- a key: a whole number, or a text that names one; another value is Number
abbrev pub key_of : ScriptPlace → Data → Result Operand ScriptRefusal
key_of place d =
    unwrap_or (option_or (option_map (λ n. Ok (operands.Number n)) (whole_of d)) (option_map (key_named place) (as_str d)))
    (Err (refusal faults.Number place))

-- the bytes of a text of pairs of hexadecimal digits; another value is Number
abbrev pub content_of : ScriptPlace → Data → Result (List ℕ) ScriptRefusal
content_of place d = ok_or (option_and_then (λ text. result_ok (decode_of text)) (as_str d)) (refusal faults.Number place)

-- ---- lines and scripts, with the number of the lane and that of the line in its script

-- the operand of a command that wants one, in the line at this place; another number of them is Field
abbrev pub only_of : ScriptPlace → List Data → Result Data ScriptRefusal
only_of place (d ∷ []) = Ok d
only_of place operands = Err (refusal faults.Field place)

-- the operands of a command that wants two, in the line at this place; another number of them is Field
abbrev pub both_of : ScriptPlace → List Data → Result (Data × Data) ScriptRefusal
both_of place (d ∷ e ∷ []) = Ok (d, e)
both_of place operands = Err (refusal faults.Field place)

-- the register of a command that wants one alone
abbrev pub only_register_of : ℕ → ℕ → List Data → Result Register ScriptRefusal
only_register_of lane line operands = only_of (places.Line lane line) operands >>= register_of (places.Item lane line 1)

-- the command of this name with these operands, which are read from left to right
abbrev pub command_with : ℕ → ℕ → CommandName → List Data → Result Command ScriptRefusal
command_with lane line Create operands = do
  register ← only_register_of lane line operands
  Ok (commands.Create register)
command_with lane line Write operands = do
  both ← both_of (places.Line lane line) operands
  register ← register_of (places.Item lane line 1) both.0
  bytes ← content_of (places.Item lane line 2) both.1
  Ok (commands.Write register bytes)
command_with lane line Publish operands = do
  register ← only_register_of lane line operands
  Ok (commands.Publish register)
command_with lane line Downgrade operands = do
  register ← only_register_of lane line operands
  Ok (commands.Downgrade register)
command_with lane line Get operands = do
  both ← both_of (places.Line lane line) operands
  register ← register_of (places.Item lane line 1) both.0
  key ← key_of (places.Item lane line 2) both.1
  Ok (commands.Get register key)
command_with lane line Read operands = do
  register ← only_register_of lane line operands
  Ok (commands.Read register)
command_with lane line Release operands = do
  register ← only_register_of lane line operands
  Ok (commands.Release register)
command_with lane line Clear operands = do
  operand ← only_of (places.Line lane line) operands
  key ← key_of (places.Item lane line 1) operand
  Ok (commands.Clear key)

-- a line of a script: one or more items, else Field; the first a text, else Field, and a command's name, else Act; and the command's operands
abbrev pub line_of : ℕ → ℕ → List Data → Result Command ScriptRefusal
line_of lane line [] = Err (refusal faults.Field (places.Line lane line))
line_of lane line (first ∷ operands) = do
  text ← ok_or (as_str first) (refusal faults.Field (places.Item lane line 0))
  name ← ok_or (command_name_of text) (refusal faults.Act (places.Item lane line 0))
  command_with lane line name operands

-- the command of a value that is a line
abbrev pub command_of : ℕ → ℕ → Data → Result Command ScriptRefusal
command_of lane line d = items_of (places.Line lane line) d >>= line_of lane line

-- the script of a value that is an array of lines
abbrev pub script_of : ℕ → Data → Result (List Command) ScriptRefusal
script_of lane d = items_of (places.Script lane) d >>= each_of (command_of lane) 0

-- the scripts: as many as there are lanes, else Field
abbrev pub scripts_of : ℕ → List Data → Result (List (List Command)) ScriptRefusal
scripts_of lanes items = if length items == lanes then each_of script_of 0 items else Err (refusal faults.Field places.Scripts)
