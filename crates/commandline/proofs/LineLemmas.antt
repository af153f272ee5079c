-- Commands that grow by an argument or a subcommand, and one less is left.
use Rattle.std.proofs.Common.{◌≡◌, ◌∙◌, ◌+◌, ◌<◌, ℕ, List, length, map, drop, get_or, false, refl, sym, ap}
use Rattle.std.specs.Borrow.{Bor}
use Rattle.std.proofs.lemmas.List.{at_drop_more}
use Rattle.clap.specs.Words.{App, AddsArg, AddsSubcommand, app_of, rule_of, with_rule, with_subcommand}
use Rattle.clap.specs.declared.builder.arg.Arg.{Arg}
use Rattle.clap.specs.declared.builder.command.Command.{Command}
use Rattle.clap.specs.declared.builder.command.Command.TheViews.{out-Command as fields_of}
use Rattle.commandline.specs.Lines.{rule_for, line_for, with_arguments, with_lines}
use Rattle.commandline.specs.declared.lines.Argument.{Argument}
use Rattle.commandline.specs.declared.lines.Line.{Line}

-- a command that is the whole with the arguments that are left, and has no global one
pub record IsLineSoFar (whole : App) (left : List Argument) (command : Command) : Type 0 where
  pub app : with_arguments (app_of command) left ≡ whole
  pub local : (fields_of command).has_globals ≡ false

-- one argument more
pub argument-next : (arguments : List Argument) (at : ℕ) (other : Argument) (old new : Command) (arg : Arg) (whole : App) → AddsArg old arg new
    → rule_of arg ≡ rule_for (get_or arguments at other) → arg.global ≡ false → at < length arguments
    → IsLineSoFar whole (drop at arguments) old → IsLineSoFar whole (drop (at + 1) arguments) new
argument-next arguments at other old new arg whole adds is local within so_far = record {
  app = ap (λ (app : App). with_arguments app (drop (at + 1) arguments)) (adds.shape local ∙ ap (with_rule (app_of old)) is)
      ∙ sym (at_drop_more (with_arguments (app_of old)) arguments at other within) ∙ so_far.app;
  local = adds.globals ∙ rw (so_far.local, local) refl;
}

-- one subcommand more
pub line-next : (lines : List (Bor Line)) (at : ℕ) (other : Bor Line) (old sub new : Command) (whole : App) → AddsSubcommand old sub new
    → app_of sub ≡ line_for (get_or lines at other).now → (fields_of sub).has_globals ≡ false → at < length lines
    → with_lines (app_of old) (map (λ line. line.now) (drop at lines)) ≡ whole → with_lines (app_of new) (map (λ line. line.now) (drop (at + 1) lines)) ≡ whole
line-next lines at other old sub new whole adds is local within so_far =
    ap (λ (app : App). with_lines app (map (λ line. line.now) (drop (at + 1) lines))) (adds.shape local ∙ ap (λ (line : App). with_subcommand (app_of old) line.top) is)
    ∙ sym (at_drop_more (λ (left : List (Bor Line)). with_lines (app_of old) (map (λ line. line.now) left)) lines at other within) ∙ so_far
