use Rattle.std.proofs.Common.{List, map, sym, subst}
use Rattle.traces.specs.declared.script.Command.{Command}
use Rattle.serde_json.specs.View.{view}
use Rattle.serde_json.proofs.Views.{view-Array}
use Rattle.scripts.specs.PlanValues.{AreEach, IsLineOf, IsScriptOf}
use Rattle.scripts.proofs.PlanValuesRead.{script-of}
use Rattle.scripts.proofs.writing.script_value.Goals as goal

pub returns : goal.returns
returns c =
    let script = c.args.script.now in
    let lines = c.in_ok-lines.lines in
    let are = subst (λ (commands : List Command). AreEach IsLineOf commands (map view lines.items)) c.as_slice.ensures c.in_ok-lines.ensures in
    subst (IsScriptOf script) (sym (view-Array lines)) (script-of script (map view lines.items) are)
