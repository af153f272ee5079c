use Rattle.std.proofs.Common.{rules}
use Rattle.poolview.proofs.showing.trace_shown.Goals as goal

pub returns-in_err-lines-clause-err : goal.returns-in_err-lines-clause-err
returns-in_err-lines-clause-err c = search (rules, c.in_err-lines.ensures.err c.args.viewing.now.view)
