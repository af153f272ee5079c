use Rattle.std.proofs.Common.{ℕ, List, Option, codes, string_bytes, sym, ap, subst}
use Rattle.std.proofs.lemmas.Result.{err_from_is_err_and}
use Rattle.clap.specs.Words.{first_of, found_of, rows_of}
use Rattle.commandline.specs.Mistakes.{Tells, Wrong, first_wrong, wrong_file, wrong_most}
use Rattle.commandline.proofs.WrongLemmas.{file-right, tells-first}
use Rattle.commandline.proofs.words.outcomes_task.Goals as goal

pub returns-in_err-file-clause-err : goal.returns-in_err-file-clause-err
returns-in_err-file-clause-err c =
    let rows = rows_of (found_of c.args.matches.now) in
    let file = wrong_file (first_of (codes "file") rows) in
    let most = wrong_most (first_of (codes "most") rows) in
    let fault = c.in_err-file.field-0.0 in
    let told = tells-first file most fault ((c.in_err-file.ensures {u = tt}).err) in
    let p = err_from_is_err_and c.from_residual.result c.from_residual.ensures.1 in rw (p.1, p.2) told

pub returns-in_err-most-clause-err : goal.returns-in_err-most-clause-err
returns-in_err-most-clause-err c =
    let rows = rows_of (found_of c.args.matches.now) in
    let file = first_of (codes "file") rows in
    let most = wrong_most (first_of (codes "most") rows) in
    let wrong = ap (λ (w : Option Wrong). first_wrong w most) (file-right file (string_bytes c.in_ok-file.file) c.in_ok-file.ensures.ok) in
    let fault = c.in_err-most.field-0.0 in
    let read = subst (λ (text : Option (List ℕ)). Tells (wrong_most text) fault) c.given.ensures ((c.in_err-most.ensures {u = tt}).err) in
    let told = subst (λ (w : Option Wrong). Tells w fault) (sym wrong) read in
    let p = err_from_is_err_and c.from_residual-in_err-most.result c.from_residual-in_err-most.ensures.1 in rw (p.1, p.2) told
