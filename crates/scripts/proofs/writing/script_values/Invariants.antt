use Rattle.std.proofs.Common.{map, take}
use Rattle.serde_json.specs.View.{view}
use Rattle.scripts.specs.PlanValues.{AreEach, IsScriptOf}
use Rattle.scripts.proofs.writing.script_values.Given as goal

abbrev pub invariant-loop-script : goal.invariant-loop-script
invariant-loop-script l = AreEach IsScriptOf (take l.script-index l.scripts) (map view l.values.items)
