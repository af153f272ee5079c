use Rattle.std.proofs.Common.{◌≡◌, rules, ap, map, ◌∙◌, string_bytes}
use Rattle.std.proofs.lemmas.Result.{IfOk-weaker}
use Rattle.clap.specs.Words.{App, app_of, is_simple, subcommand_of}
use Rattle.commandline.specs.CommandLines.{program_named}
use Rattle.commandline.specs.Lines.{with_lines}
use Rattle.commandline.proofs.lines.read_by_lines.Goals as goal

pub returns : goal.returns
returns c =
    let command_is : app_of c.in_ok-command.command ≡ with_lines (program_named c.args.program.name.now) (map (λ line. line.now) c.args.lines.now) = search rules in
    IfOk-weaker c.try_get_matches_from.result _ _
    (λ m h. (h (ap is_simple command_is ∙ c.requires)).1 ∙ ap (λ (a : App). subcommand_of a (map string_bytes c.args.words.now)) command_is)
    c.try_get_matches_from.ensures.matches
