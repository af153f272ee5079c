-- What a reading answers, against what there is to read.
use Rattle.std.specs.Prelude.{◌≡◌, ◌≢◌, ◌<◌, ◌⊎◌, List, ℕ, length, IsUtf8, Some, Result, Ok, Err}
use Rattle.keybits.specs.declared.shape.Shape.{Shape}
use Rattle.keybits.specs.Shapes.{IsNarrow}
use Rattle.keybits.specs.declared.shape.ShapeFault.{ShapeFault}
use Rattle.keybits.specs.ShapeFaults.{IsFirstFault}
use Rattle.serde_json.specs.Data.{Data}
use Rattle.serde_json.specs.Read.{read}
use Rattle.scripts.specs.declared.script_fault.ScriptFault.{ScriptFault}
use Rattle.scripts.specs.declared.script_fault.ScriptFault.TheVariants as faults
use Rattle.scripts.specs.declared.script_place.ScriptPlace.{ScriptPlace}
use Rattle.scripts.specs.declared.script_place.ScriptPlace.TheVariants as places
use Rattle.scripts.specs.declared.script_refusal.ScriptRefusal.{ScriptRefusal}
use Rattle.scripts.specs.declared.plan.Plan.{Plan}
use Rattle.scripts.specs.ScriptPlaces.{refusal, out_of_memory, faulty_field}
use Rattle.scripts.specs.ScriptFiles.{file_of, scripts_of}

-- what is read, as it is seen
abbrev pub seen_by : {A B : Type 0} → (A → B) → Result A ScriptRefusal → Result B ScriptRefusal
seen_by view (Ok x) = Ok (view x)
seen_by view (Err refused) = Err refused

-- the refusal is the one that there is, but where memory was refused: of that nothing is said
abbrev pub Refuses : {T : Type 0} → Result T ScriptRefusal → ScriptRefusal → Type 0
Refuses there refused = (refused ≡ out_of_memory) ⊎ (there ≡ Err refused)

-- the answer is what there is to read
abbrev pub Reads : {T : Type 0} → Result T ScriptRefusal → Result T ScriptRefusal → Type 0
Reads there (Ok x) = there ≡ Ok x
Reads there (Err refused) = Refuses there refused

-- the value of a script file stands for this plan: a shape within its limits, and a script for each of its lanes
pub record IsPlanOf (d : Data) (plan : Plan) : Type 0 where
  pub items : List Data
  pub file : file_of d ≡ Ok (plan.shape, items)
  pub shape : IsNarrow plan.shape
  pub scripts : scripts_of plan.shape.lanes items ≡ Ok plan.scripts
  pub lanes : length plan.scripts ≡ plan.shape.lanes

-- a file with all its fields and numbers, whose shape has this first fault, at the field with it
pub record HasShapeFault (d : Data) (refused : ScriptRefusal) : Type 0 where
  pub shape : Shape
  pub items : List Data
  pub file : file_of d ≡ Ok (shape, items)
  pub found : ShapeFault
  pub first : IsFirstFault shape found
  pub is : refused ≡ refusal (faults.Shape found) (places.Field (faulty_field found))

-- a file with all its fields and numbers and a shape within its limits, whose scripts have this first fault
pub record HasScriptsFault (d : Data) (refused : ScriptRefusal) : Type 0 where
  pub shape : Shape
  pub items : List Data
  pub file : file_of d ≡ Ok (shape, items)
  pub checked : IsNarrow shape
  pub scripts : scripts_of shape.lanes items ≡ Err refused

-- the first fault of a script file's value, with its place: of its fields and numbers, or of its shape, or of its scripts
abbrev pub RefusesValue : Data → ScriptRefusal → Type 0
RefusesValue d refused = (file_of d ≡ Err refused) ⊎ (HasShapeFault d refused ⊎ HasScriptsFault d refused)

-- the fault is the first of the value, but where memory was refused
abbrev pub RefusesPlan : Data → ScriptRefusal → Type 0
RefusesPlan d refused = (refused ≡ out_of_memory) ⊎ RefusesValue d refused

-- the value that a JSON text has, which is text in UTF-8
pub record IsJson (bytes : List ℕ) (d : Data) : Type 0 where
  pub utf8 : IsUtf8 bytes
  pub value : read bytes ≡ Some d

-- the bytes are no JSON text
abbrev pub IsNotJson : List ℕ → Type 0
IsNotJson bytes = (d : Data) → IsJson bytes d → ⊥

-- of bytes alone: they are no JSON text; or memory was refused, and there are some bytes; no other fault is answered of them, and no place in them
abbrev pub RefusesBytes : List ℕ → ScriptRefusal → Type 0
RefusesBytes bytes refused =
    ((refused ≡ refusal faults.NotJson places.File) × IsNotJson bytes) ⊎ ((refused ≡ out_of_memory) × (0 < length bytes))

-- the bytes of a script file stand for a plan
pub record StandsFor (bytes : List ℕ) (plan : Plan) : Type 0 where
  pub value : Data
  pub json : IsJson bytes value
  pub is : IsPlanOf value plan

-- the bytes are a JSON text whose value has this first fault, at this place
pub record HasFault (bytes : List ℕ) (refused : ScriptRefusal) : Type 0 where
  pub value : Data
  pub json : IsJson bytes value
  pub is : RefusesValue value refused

-- the bytes of a script file are refused with this fault at this place: they are no JSON; or memory was refused, and there are some bytes; or their value has this fault there
abbrev pub RefusesFileAt : List ℕ → ScriptFault → ScriptPlace → Type 0
RefusesFileAt bytes faults.NotJson place = IsNotJson bytes × (place ≡ places.File)
RefusesFileAt bytes faults.Memory place = (0 < length bytes) × (place ≡ places.File)
RefusesFileAt bytes fault place = HasFault bytes (refusal fault place)

-- the same of a refusal
abbrev pub RefusesFile : List ℕ → ScriptRefusal → Type 0
RefusesFile bytes refused = RefusesFileAt bytes refused.fault refused.place

-- what a script file's reading answers: the plan that the bytes stand for, or their first fault, with its place
abbrev pub Parses : List ℕ → Result Plan ScriptRefusal → Type 0
Parses bytes (Ok plan) = StandsFor bytes plan
Parses bytes (Err refused) = RefusesFile bytes refused
