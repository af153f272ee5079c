use Rattle.std.proofs.Common.{◌≡◌, ◌∙◌, List, map, ap, subst}
use Rattle.traces.specs.declared.script.Command.{Command}
use Rattle.serde_json.specs.Data.{Data, array}
use Rattle.serde_json.specs.View.{items_of, view}
use Rattle.serde_json.proofs.Views.{view-Array}
use Rattle.scripts.specs.PlanValues.{AreEach, IsScriptOf, with_fields}
use Rattle.scripts.proofs.PlanValuesRead.{file_data, file-flat, plan-of}
use Rattle.scripts.proofs.writing.plan_value.Goals as goal

pub returns-clause-is : goal.returns-clause-is
returns-clause-is c =
    let plan = c.args.plan.now in
    let scripts = c.in_ok-scripts.scripts in
    let ds = map view scripts.items in
    let are = subst (λ (ss : List (List Command)). AreEach IsScriptOf ss ds) c.as_slice.ensures c.in_ok-scripts.ensures in
    let is : view c.in_ok-file.file ≡ file_data plan.shape ds =
    c.in_ok-file.ensures ∙ ap (λ (d : Data). with_fields d (view c.in_ok-shape.shape)) (view-Array scripts)
    ∙ ap (λ (d : Data). with_fields (array (items_of ds)) d) c.in_ok-shape.ensures.value in
    plan-of plan ds (view c.in_ok-file.file) c.in_ok-shape.ensures.within c.requires.shape c.requires.count are is

pub returns-clause-flat : goal.returns-clause-flat
returns-clause-flat c =
    let plan = c.args.plan.now in
    let scripts = c.in_ok-scripts.scripts in
    let ds = map view scripts.items in
    let are = subst (λ (ss : List (List Command)). AreEach IsScriptOf ss ds) c.as_slice.ensures c.in_ok-scripts.ensures in
    let is : view c.in_ok-file.file ≡ file_data plan.shape ds =
    c.in_ok-file.ensures ∙ ap (λ (d : Data). with_fields d (view c.in_ok-shape.shape)) (view-Array scripts)
    ∙ ap (λ (d : Data). with_fields (array (items_of ds)) d) c.in_ok-shape.ensures.value in
    file-flat plan ds (view c.in_ok-file.file) are is
