-- Lists of values beside the data that they stand for.
use Rattle.std.proofs.Common.{◌≡◌, ◌==◌, ℕ, List, [], ◌∷◌, length, map, Some, Ok, refl, ap}
use Rattle.serde_json.specs.Data.{Data}
use Rattle.serde_json.specs.Find.{as_object, as_array}
use Rattle.serde_json.specs.View.{view, items_view, members_view}
use Rattle.serde_json.specs.declared.value.Value.{Value}
use Rattle.serde_json.proofs.Views.{Entry, members_len-members_view}
use Rattle.scripts.specs.declared.script_place.ScriptPlace.{ScriptPlace}
use Rattle.scripts.specs.ScriptFiles.{has_fields, list_of, items_of}

pub has_fields_is : (d : Data) (es : List Entry) (count : ℕ) → Some (members_view es) ≡ as_object d → has_fields count d ≡ (length es == count)
has_fields_is d es count e = rw (← e, members_len-members_view es) refl

list_of-items_view : (vs : List Value) → list_of (items_view vs) ≡ map view vs
list_of-items_view [] = refl
list_of-items_view (v ∷ vs) = ap (λ ds. view v ∷ ds) (list_of-items_view vs)

pub items_of_is : (place : ScriptPlace) (d : Data) (vs : List Value) → Some (items_view vs) ≡ as_array d → items_of place d ≡ Ok (map view vs)
items_of_is place d vs e = rw (← e, list_of-items_view vs) refl
