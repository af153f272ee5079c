use Rattle.std.proofs.Common.{◌≡◌, map, drop}
use Rattle.clap.specs.Words.{app_of}
use Rattle.commandline.specs.Lines.{with_lines}
use Rattle.commandline.proofs.lines.with_subcommands.Given as goal

-- the program so far, with the subcommands that are left, is the program with all of them
abbrev pub invariant-loop-line : goal.invariant-loop-line
invariant-loop-line l = with_lines (app_of l.command) (map (λ line. line.now) (drop l.line-index l.lines)) ≡ with_lines (app_of l.initial.command) (map (λ line. line.now) l.lines)
