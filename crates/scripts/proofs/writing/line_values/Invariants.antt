use Rattle.std.proofs.Common.{map, take}
use Rattle.serde_json.specs.View.{view}
use Rattle.scripts.specs.PlanValues.{AreEach, IsLineOf}
use Rattle.scripts.proofs.writing.line_values.Given as goal

abbrev pub invariant-loop-command : goal.invariant-loop-command
invariant-loop-command l = AreEach IsLineOf (take l.command-index l.commands) (map view l.lines.items)
