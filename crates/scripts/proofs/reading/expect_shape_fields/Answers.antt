use Rattle.std.proofs.Common.{◌≡◌, ◌∙◌, rules, refl, Result, Ok, Err}
use Rattle.std.specs.Result.{result_and}
use Rattle.serde_json.specs.View.{view}
use Rattle.serde_json.specs.declared.value.Value.{Value}
use Rattle.scripts.specs.Readings.{seen_by}
use Rattle.scripts.specs.ScriptFiles.{◌>>=◌, shape_fields_of}
use Rattle.scripts.specs.declared.script_refusal.ScriptRefusal.{ScriptRefusal}
use Rattle.scripts.proofs.reading.expect_shape_fields.Goals as goal

-- six readings behind one another: the first refusal ends them
in-turn : {A B U V : Type 0} (see : A → B) (one : Result U ScriptRefusal) (two three four five : Result A ScriptRefusal) (six : Result V ScriptRefusal)
    → result_and (result_and (result_and (result_and (result_and one two) three) four) five) six
    ≡ (one >>= λ _. seen_by see two >>= λ _. seen_by see three >>= λ _. seen_by see four >>= λ _. seen_by see five >>= λ _. six)
in-turn see (Err e) two three four five six = refl
in-turn see (Ok a) (Err e) three four five six = refl
in-turn see (Ok a) (Ok b) (Err e) four five six = refl
in-turn see (Ok a) (Ok b) (Ok c) (Err e) five six = refl
in-turn see (Ok a) (Ok b) (Ok c) (Ok d) (Err e) six = refl
in-turn see (Ok a) (Ok b) (Ok c) (Ok d) (Ok e) six = refl

pub returns : goal.returns
returns c =
    let chained = in-turn (λ v. view v.now) c.expect.result c.field.result c.field-2.result c.field-3.result c.field-4.result c.expect-2.result in
    rw (c.and-5.ensures, c.and-4.ensures, c.and-3.ensures, c.and-2.ensures, c.and.ensures)
    (chained ∙ rw (c.field.ensures, c.field-2.ensures, c.field-3.ensures, c.field-4.ensures, c.expect.ensures, c.expect-2.ensures, c.has_shape_fields.ensures, c.is_object.ensures) refl)
