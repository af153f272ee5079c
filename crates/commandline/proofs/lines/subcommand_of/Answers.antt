use Rattle.commandline.proofs.LineLemmas.{argument-next}
use Rattle.commandline.proofs.lines.subcommand_of.Goals as goal

pub loop-argument-preserved : goal.loop-argument-preserved
loop-argument-preserved c =
    argument-next _ c.loop-argument.argument-index _ _ _ _ _ c.in_ok-command.ensures c.argument_of.ensures.rule c.argument_of.ensures.local c.loop-argument-test.true c.loop-argument.invariant
