-- Where in a script file a fault is.
use Rattle.std.specs.Prelude.{ℕ, List, codes}
use Rattle.keybits.specs.declared.shape.ShapeFault.{ShapeFault}
use Rattle.keybits.specs.declared.shape.ShapeFault.TheVariants as shapes
use Rattle.scripts.specs.declared.script_fault.ScriptFault.{ScriptFault}
use Rattle.scripts.specs.declared.script_fault.ScriptFault.TheVariants as faults
use Rattle.scripts.specs.declared.script_place.FieldName.{FieldName}
use Rattle.scripts.specs.declared.script_place.FieldName.TheVariants.{Shape, Scripts, Lanes, FirstPage, Pages, LastGeneration, Tag}
use Rattle.scripts.specs.declared.script_place.ScriptPlace.{ScriptPlace}
use Rattle.scripts.specs.declared.script_place.ScriptPlace.TheVariants as places
use Rattle.scripts.specs.declared.script_refusal.ScriptRefusal.{ScriptRefusal}

-- a field's name in a file
abbrev pub field_text : FieldName → List ℕ
field_text Shape = codes "shape"
field_text Scripts = codes "scripts"
field_text Lanes = codes "lanes"
field_text FirstPage = codes "first_page"
field_text Pages = codes "pages"
field_text LastGeneration = codes "last_generation"
field_text Tag = codes "tag"

-- the field of a shape whose number has this fault
abbrev pub faulty_field : ShapeFault → FieldName
faulty_field shapes.Lanes = Lanes
faulty_field shapes.FirstPage = FirstPage
faulty_field shapes.Pages = Pages
faulty_field shapes.Generation = LastGeneration
faulty_field shapes.Tag = Tag

-- the refusal for a fault at a place
abbrev pub refusal : ScriptFault → ScriptPlace → ScriptRefusal
refusal fault place = record { fault = fault; place = place }

-- the refusal for want of memory, which has no place in the file
abbrev pub out_of_memory : ScriptRefusal
out_of_memory = refusal faults.Memory places.File
