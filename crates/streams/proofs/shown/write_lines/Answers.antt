use Rattle.streams.proofs.SafeLines.{printable-lines}
use Rattle.streams.proofs.shown.write_lines.Goals as goal

pub returns-clause-safe : goal.returns-clause-safe
returns-clause-safe g c = printable-lines c.args.text.now
