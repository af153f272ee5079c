use Rattle.std.proofs.Common.{◌≡◌, Some, rules}
use Rattle.clap.specs.Words.{rows_of, found_of, subcommand_rows_of}
use Rattle.commandline.proofs.WrongLemmas.{asks-for}
use Rattle.commandline.proofs.requests.asked.Goals as goal

pub returns-in-Some : goal.returns-in-Some
returns-in-Some c =
    let matched : subcommand_rows_of c.args.matches.now ≡ Some (c.in-Some.name.now, rows_of (found_of c.in-Some.matches.now)) = search rules in
    asks-for _ c.in-Some.name.now (rows_of (found_of c.in-Some.matches.now)) _ matched c.task_of.ensures.ok c.task_of.ensures.err c.is_used.ensures
