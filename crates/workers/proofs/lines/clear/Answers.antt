use Rattle.std.proofs.Common.{sym}
use Rattle.workers.proofs.Running.{runs-clear}
use Rattle.workers.proofs.lines.clear.Goals as goal

pub returns : goal.returns
returns c =
    let did = c.clear.ensures in
    runs-clear c.requires.tidy did.owns c.args.operand c.in-Some.key (sym c.in-Some.ensures) did.fillings did.refs c.clear.result did.outside did.called did.clears did.held
