use Rattle.std.proofs.Common.{drop}
use Rattle.commandline.specs.Lines.{line_for}
use Rattle.commandline.proofs.LineLemmas.{IsLineSoFar}
use Rattle.commandline.proofs.lines.subcommand_of.Given as goal

abbrev pub invariant-loop-argument : goal.invariant-loop-argument
invariant-loop-argument l = IsLineSoFar (line_for l.line) (drop l.argument-index l.line.arguments.now) l.command
