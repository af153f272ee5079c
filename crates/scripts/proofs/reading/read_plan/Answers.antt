use Rattle.std.proofs.Common.{map, sym, ap, ◌∙◌, refl, inl, inr, rules}
use Rattle.serde_json.specs.View.{view}
use Rattle.scripts.specs.declared.script_fault.ScriptFault.TheVariants.{Shape}
use Rattle.scripts.specs.declared.script_place.FieldName.{FieldName}
use Rattle.scripts.specs.declared.script_place.ScriptPlace.TheVariants.{Field}
use Rattle.scripts.specs.ScriptPlaces.{refusal}
use Rattle.scripts.proofs.Sequences.{scripts_of-length}
use Rattle.scripts.proofs.reading.read_plan.Goals as goal

pub returns-in-Err-clause-err : goal.returns-in-Err-clause-err
returns-in-Err-clause-err c =
    inr (inr (inl (record {
      shape = c.in_ok-shape.shape;
      items = map view c.in_ok-shape.scripts.now;
      file = sym c.in_ok-shape.ensures;
      found = c.in-Err.fault;
      first = (c.in-Err.ensures.err c.in-Err.fault).0 refl;
      is = c.new.ensures ∙ ap (λ (name : FieldName). refusal (Shape c.in-Err.fault) (Field name)) c.with_fault.ensures;
    })))

pub returns-clause-ok : goal.returns-clause-ok
returns-clause-ok c = record {
  items = map view c.in_ok-shape.scripts.now;
  file = sym c.in_ok-shape.ensures;
  shape = c.in_default.ensures.ok.0 (search rules);
  scripts = c.in_ok-scripts.ensures;
  lanes = scripts_of-length c.in_ok-shape.shape.lanes (map view c.in_ok-shape.scripts.now) _ c.in_ok-scripts.ensures;
}
