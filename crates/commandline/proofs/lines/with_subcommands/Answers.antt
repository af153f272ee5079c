use Rattle.commandline.proofs.LineLemmas.{line-next}
use Rattle.commandline.proofs.lines.with_subcommands.Goals as goal

pub loop-line-preserved : goal.loop-line-preserved
loop-line-preserved c =
    line-next _ c.loop-line.line-index _ _ _ _ _ c.in_ok-command.ensures c.in_ok-subcommand.ensures.0 c.in_ok-subcommand.ensures.1 c.loop-line-test.true c.loop-line.invariant
