-- Which faults a script file's value may have, and how the bytes of a script file are refused.
use Rattle.std.proofs.Common.{◌≡◌, ◌==◌, ◌&&◌, ◌||◌, ◌<◌, ◌+◌, ℕ, List, [], ◌∷◌, length, Bool, true, false, Option, Some, None, Result, Ok, Err, IfOk, IfErr, cond, ok_or, unwrap_or, option_map, is_some, refl, subst, sym, ⊎_elim, arith}
use Rattle.std.specs.Option.{option_or}
use Rattle.traces.specs.declared.script.Operand.TheVariants as operands
use Rattle.serde_json.specs.Data.{Data}
use Rattle.serde_json.specs.Find.{get, as_str, as_object}
use Rattle.serde_json.specs.Read.{read}
use Rattle.serde_json.proofs.OnLiterals.{serde_json_on_literals}
use Rattle.scripts.specs.declared.command_name.CommandName.{CommandName}
use Rattle.scripts.specs.declared.command_name.CommandName.TheVariants.{Create, Write, Publish, Downgrade, Get, Read, Release, Clear}
use Rattle.scripts.specs.declared.script_fault.ScriptFault.{ScriptFault}
use Rattle.scripts.specs.declared.script_fault.ScriptFault.TheVariants as faults
use Rattle.scripts.specs.declared.script_place.FieldName.{FieldName}
use Rattle.scripts.specs.declared.script_place.FieldName.TheVariants as names
use Rattle.scripts.specs.declared.script_place.ScriptPlace.{ScriptPlace}
use Rattle.scripts.specs.declared.script_place.ScriptPlace.TheVariants as places
use Rattle.scripts.specs.declared.script_refusal.ScriptRefusal.{ScriptRefusal}
use Rattle.scripts.specs.CommandNames.{command_name_of}
use Rattle.scripts.specs.ScriptPlaces.{field_text, refusal, out_of_memory}
use Rattle.scripts.specs.declared.plan.Plan.{Plan}
use Rattle.scripts.specs.Readings.{IsPlanOf, RefusesValue, RefusesPlan, RefusesFileAt, RefusesFile, HasShapeFault, HasScriptsFault, IsJson, Parses}
use Rattle.scripts.specs.ScriptFiles.{◌>>=◌, has_fields, has_field, holds, field_of, shape_fields_of, number_at, tag_of, shape_of, fields_of, items_of, file_of, whole_of, register_of, key_named, key_of, content_of, only_of, both_of, only_register_of, command_with, line_of, each_of, command_of, script_of, scripts_of}

-- ---- the faults of a value: its bytes are JSON, and it wants no memory

abbrev IsOfValue : ScriptFault → Type 0
IsOfValue faults.NotJson = ⊥
IsOfValue faults.Memory = ⊥
IsOfValue fault = Unit {0}

-- a reading of a value answers no fault of bytes
abbrev IsOfValues : {T : Type 0} → Result T ScriptRefusal → Type 0
IsOfValues read = IfErr read (λ refused. IsOfValue refused.fault)

of_next : {A B : Type 0} (a : Result A ScriptRefusal) (f : A → Result B ScriptRefusal) → IsOfValues a → ((x : A) → IsOfValues (f x)) → IsOfValues (a >>= f)
of_next (Ok x) f here next = next x
of_next (Err refused) f here next = here

of_ok_or : {A : Type 0} (o : Option A) (refused : ScriptRefusal) → IsOfValue refused.fault → IsOfValues (ok_or o refused)
of_ok_or (Some x) refused here = tt
of_ok_or None refused here = here

of_cond : {A : Type 0} (b : Bool) (x y : Result A ScriptRefusal) → IsOfValues x → IsOfValues y → IsOfValues (cond b x y)
of_cond true x y left right = left
of_cond false x y left right = right

of_each : {T : Type 0} (read : ℕ → Data → Result T ScriptRefusal) (number : ℕ) (ds : List Data) → ((i : ℕ) (d : Data) → IsOfValues (read i d))
    → IsOfValues (each_of read number ds)
of_each read number [] one = tt
of_each read number (d ∷ more) one =
    of_next (read number d) _ (one number d) (λ x. of_next (each_of read (number + 1) more) _ (of_each read (number + 1) more one) (λ xs. tt))

of_holds : (place : ScriptPlace) (told : Bool) → IsOfValues (holds place told)
of_holds place told = of_cond told (Ok tt) (Err (refusal faults.Field place)) tt tt

of_field : (name : FieldName) (d : Data) → IsOfValues (field_of name d)
of_field name d = of_ok_or (get (field_text name) d) (refusal faults.Field (places.Field name)) tt

of_shape_fields : (d : Data) → IsOfValues (shape_fields_of d)
of_shape_fields d =
    of_next (holds (places.Field names.Shape) (is_some (as_object d))) _ (of_holds (places.Field names.Shape) (is_some (as_object d))) (λ object.
    of_next (field_of names.Lanes d) _ (of_field names.Lanes d) (λ lanes.
    of_next (field_of names.FirstPage d) _ (of_field names.FirstPage d) (λ first_page.
    of_next (field_of names.Pages d) _ (of_field names.Pages d) (λ pages.
    of_next (field_of names.LastGeneration d) _ (of_field names.LastGeneration d) (λ last_generation.
    of_holds (places.Field names.Shape) (has_fields 4 d || (has_fields 5 d && has_field names.Tag d)))))))

of_number : (name : FieldName) (d : Data) → IsOfValues (number_at name d)
of_number name d = of_ok_or _ (refusal faults.Number (places.Field name)) tt

of_tag : (d : Data) → IsOfValues (tag_of d)
of_tag d = of_cond (has_field names.Tag d) (number_at names.Tag d) (Ok 0) (of_number names.Tag d) tt

of_shape : (d : Data) → IsOfValues (shape_of d)
of_shape d =
    of_next (number_at names.Lanes d) _ (of_number names.Lanes d) (λ lanes.
    of_next (number_at names.FirstPage d) _ (of_number names.FirstPage d) (λ first_page.
    of_next (number_at names.Pages d) _ (of_number names.Pages d) (λ pages.
    of_next (number_at names.LastGeneration d) _ (of_number names.LastGeneration d) (λ last_generation.
    of_next (tag_of d) _ (of_tag d) (λ tag. tt)))))

of_items : (place : ScriptPlace) (d : Data) → IsOfValues (items_of place d)
of_items place d = of_ok_or _ (refusal faults.Field place) tt

of_fields : (d : Data) → IsOfValues (fields_of d)
of_fields d =
    of_next (holds places.File (is_some (as_object d))) _ (of_holds places.File (is_some (as_object d))) (λ object.
    of_next (field_of names.Shape d) _ (of_field names.Shape d) (λ shape.
    of_next (field_of names.Scripts d) _ (of_field names.Scripts d) (λ scripts.
    of_next (holds places.File (has_fields 2 d)) _ (of_holds places.File (has_fields 2 d)) (λ both.
    of_next (shape_fields_of shape) _ (of_shape_fields shape) (λ whole.
    of_next (items_of (places.Field names.Scripts) scripts) _ (of_items (places.Field names.Scripts) scripts) (λ items. tt))))))

of_file : (d : Data) → IsOfValues (file_of d)
of_file d = of_next (fields_of d) _ (of_fields d) (λ fields. of_next (shape_of fields.0) _ (of_shape fields.0) (λ shape. tt))

of_register : (place : ScriptPlace) (d : Data) → IsOfValues (register_of place d)
of_register place d = of_ok_or _ (refusal faults.Register place) tt

of_key_or : (place : ScriptPlace) (n : Option ℕ) (text : Option (List ℕ))
    → IsOfValues (unwrap_or (option_or (option_map (λ m. Ok (operands.Number m)) n) (option_map (key_named place) text)) (Err (refusal faults.Number place)))
of_key_or place (Some n) text = tt
of_key_or place None (Some text) = of_ok_or _ (refusal faults.Register place) tt
of_key_or place None None = tt

of_key : (place : ScriptPlace) (d : Data) → IsOfValues (key_of place d)
of_key place d = of_key_or place (whole_of d) (as_str d)

of_content : (place : ScriptPlace) (d : Data) → IsOfValues (content_of place d)
of_content place d = of_ok_or _ (refusal faults.Number place) tt

of_only : (place : ScriptPlace) (ds : List Data) → IsOfValues (only_of place ds)
of_only place [] = tt
of_only place (d ∷ []) = tt
of_only place (d ∷ e ∷ more) = tt

of_both : (place : ScriptPlace) (ds : List Data) → IsOfValues (both_of place ds)
of_both place [] = tt
of_both place (d ∷ []) = tt
of_both place (d ∷ e ∷ []) = tt
of_both place (d ∷ e ∷ f ∷ more) = tt

of_only_register : (lane line : ℕ) (ds : List Data) → IsOfValues (only_register_of lane line ds)
of_only_register lane line ds = of_next (only_of (places.Line lane line) ds) _ (of_only (places.Line lane line) ds) (of_register (places.Item lane line 1))

of_command_with : (lane line : ℕ) (name : CommandName) (ds : List Data) → IsOfValues (command_with lane line name ds)
of_command_with lane line Create ds = of_next (only_register_of lane line ds) _ (of_only_register lane line ds) (λ register. tt)
of_command_with lane line Publish ds = of_next (only_register_of lane line ds) _ (of_only_register lane line ds) (λ register. tt)
of_command_with lane line Downgrade ds = of_next (only_register_of lane line ds) _ (of_only_register lane line ds) (λ register. tt)
of_command_with lane line Read ds = of_next (only_register_of lane line ds) _ (of_only_register lane line ds) (λ register. tt)
of_command_with lane line Release ds = of_next (only_register_of lane line ds) _ (of_only_register lane line ds) (λ register. tt)
of_command_with lane line Write ds =
    of_next (both_of (places.Line lane line) ds) _ (of_both (places.Line lane line) ds) (λ both.
    of_next (register_of (places.Item lane line 1) both.0) _ (of_register (places.Item lane line 1) both.0) (λ register.
    of_next (content_of (places.Item lane line 2) both.1) _ (of_content (places.Item lane line 2) both.1) (λ bytes. tt)))
of_command_with lane line Get ds =
    of_next (both_of (places.Line lane line) ds) _ (of_both (places.Line lane line) ds) (λ both.
    of_next (register_of (places.Item lane line 1) both.0) _ (of_register (places.Item lane line 1) both.0) (λ register.
    of_next (key_of (places.Item lane line 2) both.1) _ (of_key (places.Item lane line 2) both.1) (λ key. tt)))
of_command_with lane line Clear ds =
    of_next (only_of (places.Line lane line) ds) _ (of_only (places.Line lane line) ds) (λ operand.
    of_next (key_of (places.Item lane line 1) operand) _ (of_key (places.Item lane line 1) operand) (λ key. tt))

of_line : (lane line : ℕ) (ds : List Data) → IsOfValues (line_of lane line ds)
of_line lane line [] = tt
of_line lane line (first ∷ ds) =
    of_next (ok_or (as_str first) (refusal faults.Field (places.Item lane line 0))) _ (of_ok_or (as_str first) (refusal faults.Field (places.Item lane line 0)) tt) (λ text.
    of_next (ok_or (command_name_of text) (refusal faults.Act (places.Item lane line 0))) _ (of_ok_or (command_name_of text) (refusal faults.Act (places.Item lane line 0)) tt)
    (λ name. of_command_with lane line name ds))

of_command : (lane line : ℕ) (d : Data) → IsOfValues (command_of lane line d)
of_command lane line d = of_next (items_of (places.Line lane line) d) _ (of_items (places.Line lane line) d) (of_line lane line)

of_script : (lane : ℕ) (d : Data) → IsOfValues (script_of lane d)
of_script lane d = of_next (items_of (places.Script lane) d) _ (of_items (places.Script lane) d) (λ ds. of_each (command_of lane) 0 ds (of_command lane))

of_scripts : (lanes : ℕ) (ds : List Data) → IsOfValues (scripts_of lanes ds)
of_scripts lanes ds =
    of_cond (length ds == lanes) (each_of script_of 0 ds) (Err (refusal faults.Field places.Scripts)) (of_each script_of 0 ds of_script) tt

of_read : {T : Type 0} (read : Result T ScriptRefusal) (refused : ScriptRefusal) → IsOfValues read → read ≡ Err refused → IsOfValue refused.fault
of_read {T} read refused of e = let P : Result T ScriptRefusal → Type 0 = λ r. IsOfValues r in subst P e of

-- the refusal of a value is for a fault of its own
of_value : (d : Data) (refused : ScriptRefusal) → RefusesValue d refused → IsOfValue refused.fault
of_value d refused h =
    ⊎_elim (λ (e : file_of d ≡ Err refused). of_read (file_of d) refused (of_file d) e)
    (λ later. ⊎_elim
    (λ (shape : HasShapeFault d refused). let P : ScriptRefusal → Type 0 = λ r. IsOfValue r.fault in subst P (sym shape.is) tt)
    (λ (scripts : HasScriptsFault d refused). of_read (scripts_of scripts.shape.lanes scripts.items) refused (of_scripts scripts.shape.lanes scripts.items) scripts.scripts)
    later) h

-- ---- refusals of bytes

no_value : read [] ≡ None
unfolding serde_json_on_literals
no_value = refl

-- a JSON text has some bytes
some_bytes : (bytes : List ℕ) (d : Data) → read bytes ≡ Some d → 0 < length bytes
some_bytes [] d is = absurd (cc (no_value, is))
some_bytes (byte ∷ more) d is = omega arith

-- a fault of a JSON text's value is one of the bytes
value_refused : (bytes : List ℕ) (d : Data) (fault : ScriptFault) (place : ScriptPlace) → IsJson bytes d → RefusesValue d (refusal fault place)
    → IsOfValue fault → RefusesFileAt bytes fault place
value_refused bytes d faults.NotJson place json is of = absurd of
value_refused bytes d faults.Memory place json is of = absurd of
value_refused bytes d faults.Field place json is of = record { value = d; json = json; is = is }
value_refused bytes d faults.Act place json is of = record { value = d; json = json; is = is }
value_refused bytes d faults.Register place json is of = record { value = d; json = json; is = is }
value_refused bytes d faults.Number place json is of = record { value = d; json = json; is = is }
value_refused bytes d (faults.Shape f) place json is of = record { value = d; json = json; is = is }

-- what a JSON text's value is refused for is what the bytes are refused for
refuses_file : (bytes : List ℕ) (d : Data) (refused : ScriptRefusal) → IsJson bytes d → RefusesPlan d refused → RefusesFile bytes refused
refuses_file bytes d refused json h = ⊎_elim
    (λ (memory : refused ≡ out_of_memory). subst (RefusesFile bytes) (sym memory) (some_bytes bytes d json.value, refl))
    (λ (is : RefusesValue d refused). value_refused bytes d refused.fault refused.place json is (of_value d refused is))
    h

-- what a JSON text's value is read as is what the bytes are
pub parses : (bytes : List ℕ) (d : Data) (r : Result Plan ScriptRefusal) → IsJson bytes d → IfOk r (λ plan. IsPlanOf d plan) → IfErr r (λ refused. RefusesPlan d refused) → Parses bytes r
parses bytes d (Ok plan) json is refused = record { value = d; json = json; is = is }
parses bytes d (Err refusal) json is refused = refuses_file bytes d refusal json refused
