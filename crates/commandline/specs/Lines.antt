-- What the table of subcommands says.
use Rattle.std.specs.Prelude.{ℕ, List, [], ◌∷◌}
use Rattle.clap.specs.Words.{App, Rule, new_app, with_rule, with_subcommand}
use Rattle.commandline.specs.CommandLines.{positional, option_named, needed_option, flag_named}
use Rattle.commandline.specs.declared.lines.Kind.{Kind}
use Rattle.commandline.specs.declared.lines.Kind.TheVariants.{Positional, Valued, Needed, Flag}
use Rattle.commandline.specs.declared.lines.Argument.{Argument}
use Rattle.commandline.specs.declared.lines.Line.{Line}

-- the rule of an argument of this kind and this name
abbrev pub rule_as : Kind → List ℕ → Rule
rule_as (Positional value_name) name = positional name
rule_as (Valued value_name) name = option_named name
rule_as (Needed value_name) name = needed_option name
rule_as Flag name = flag_named name

-- the rule of an argument
abbrev pub rule_for : Argument → Rule
rule_for argument = rule_as argument.kind argument.name.now

-- a command with these arguments more
abbrev pub with_arguments : App → List Argument → App
with_arguments app [] = app
with_arguments app (argument ∷ more) = with_arguments (with_rule app (rule_for argument)) more

-- a subcommand
abbrev pub line_for : Line → App
line_for line = with_arguments (new_app line.name.now) line.arguments.now

-- a command with these subcommands more
abbrev pub with_lines : App → List Line → App
with_lines app [] = app
with_lines app (line ∷ more) = with_lines (with_subcommand app (line_for line).top) more
