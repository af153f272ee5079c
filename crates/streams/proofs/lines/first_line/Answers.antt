use Rattle.std.proofs.Common.{ap}
use Rattle.streams.specs.Lines.{before_end}
use Rattle.streams.proofs.lines.first_line.Goals as goal

pub returns-in-Some : goal.returns-in-Some
returns-in-Some c = ap (before_end c.args.text.now) c.in-Some.ensures

pub returns-in-None : goal.returns-in-None
returns-in-None c = ap (before_end c.args.text.now) c.in-None.ensures
