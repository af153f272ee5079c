use Rattle.serde_json.specs.View.{view}
use Rattle.scripts.proofs.Plans.{parses}
use Rattle.scripts.proofs.reading.parse.Goals as goal

pub returns : goal.returns
returns c = parses c.args.file.now (view c.in_ok-value.value) c.read_plan.result c.in_ok-value.ensures.ok c.read_plan.ensures.ok c.read_plan.ensures.err
