-- The values at the places of a script file have numbers that can be written.
use Rattle.std.proofs.Common.{◌≡◌, ℕ, List, Option, Some, None, codes, option_and_then, refl}
use Rattle.json.specs.Json.{Json}
use Rattle.json.specs.Find.{get, at}
use Rattle.json.specs.Tree.{HasNumbers}
use Rattle.json.proofs.Numbered.{HasNumbers-get, HasNumbers-at}
use Rattle.scripts.specs.ScriptPlaces.{field_text}
use Rattle.scripts.specs.declared.script_place.FieldName.{FieldName}
use Rattle.scripts.specs.declared.script_place.FieldName.TheVariants as names
use Rattle.scripts.specs.declared.script_place.ScriptPlace.{ScriptPlace}
use Rattle.scripts.specs.declared.script_place.ScriptPlace.TheVariants.{File, Field, Scripts, Script, Line, Item}
use Rattle.explanations.specs.Found.{script_at, command_at, in_shape, field_at, value_of}

-- what is found of a value whose numbers can be written has such numbers
abbrev KeepsNumbers : (Json → Option Json) → Type 0
KeepsNumbers find = (whole part : Json) → HasNumbers whole → Some part ≡ find whole → HasNumbers part

step : (next : Json → Option Json) → KeepsNumbers next → (found : Option Json) → ((j : Json) → Some j ≡ found → HasNumbers j)
    → (part : Json) → Some part ≡ option_and_then next found → HasNumbers part
step next keeps None has part e = absurd (cc e)
step next keeps (Some j) has part e = keeps j part (has j refl) e

and_then : (find next : Json → Option Json) → KeepsNumbers find → KeepsNumbers next → KeepsNumbers (λ whole. option_and_then next (find whole))
and_then find next first second whole part h e = step next second (find whole) (λ j is. first whole j h is) part e

by_name : (name : List ℕ) → KeepsNumbers (get name)
by_name name whole part h e = HasNumbers-get name whole part h e

by_index : (index : ℕ) → KeepsNumbers (at index)
by_index index whole part h e = HasNumbers-at index whole part h e

script : (lane : ℕ) → KeepsNumbers (script_at lane)
script lane = and_then (get (codes "scripts")) (at lane) (by_name (codes "scripts")) (by_index lane)

command : (lane line : ℕ) → KeepsNumbers (command_at lane line)
command lane line = and_then (script_at lane) (at line) (script lane) (by_index line)

shape : (name : List ℕ) → KeepsNumbers (in_shape name)
shape name = and_then (get (codes "shape")) (get name) (by_name (codes "shape")) (by_name name)

field : (name : FieldName) → KeepsNumbers (field_at name)
field names.Shape = by_name (codes "shape")
field names.Scripts = by_name (codes "scripts")
field names.Lanes = shape (field_text names.Lanes)
field names.FirstPage = shape (field_text names.FirstPage)
field names.Pages = shape (field_text names.Pages)
field names.LastGeneration = shape (field_text names.LastGeneration)
field names.Tag = shape (field_text names.Tag)

-- the numbers of the value at a place can be written
pub HasNumbers-value_of : (place : ScriptPlace) (whole part : Json) → HasNumbers whole → Some part ≡ value_of place whole → HasNumbers part
HasNumbers-value_of File whole part h e = absurd (cc e)
HasNumbers-value_of (Field name) whole part h e = field name whole part h e
HasNumbers-value_of Scripts whole part h e = by_name (codes "scripts") whole part h e
HasNumbers-value_of (Script lane) whole part h e = script lane whole part h e
HasNumbers-value_of (Line lane line) whole part h e = command lane line whole part h e
HasNumbers-value_of (Item lane line item) whole part h e = and_then (command_at lane line) (at item) (command lane line) (by_index item) whole part h e
