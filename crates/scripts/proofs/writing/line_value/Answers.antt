use Rattle.serde_json.specs.View.{view}
use Rattle.scripts.proofs.PlanValuesRead.{line-of}
use Rattle.scripts.proofs.writing.line_value.Goals as goal

pub returns : goal.returns
returns c = line-of c.args.command.now (view c.in_ok-line.line) c.in_ok-line.ensures.bytes c.in_ok-line.ensures.value
