use Rattle.std.proofs.Common.{◌∙◌, ℕ, List, Option, codes, string_bytes, sym, ap, subst}
use Rattle.std.proofs.lemmas.Result.{err_from_is_err_and}
use Rattle.clap.specs.Words.{first_of, found_of, rows_of}
use Rattle.commandline.specs.Mistakes.{Tells, Wrong, first_wrong, wrong_file, wrong_tries}
use Rattle.commandline.proofs.WrongLemmas.{file-right, given-right, tells-first}
use Rattle.commandline.proofs.words.shorten_task.Goals as goal

pub returns-in_err-word-clause-err : goal.returns-in_err-word-clause-err
returns-in_err-word-clause-err c =
    let rows = rows_of (found_of c.args.matches.now) in
    let given = c.in_ok-file.field-0 in
    let word = wrong_file (first_of (codes "until") rows) in
    let tries = wrong_tries (first_of (codes "tries") rows) in
    let right = given-right rows (string_bytes given.file) given.turns given.stop c.in_ok-file.ensures.ok in
    let wrong = ap (λ (w : Option Wrong). first_wrong w (first_wrong word tries)) right in
    let fault = c.in_err-word.field-0.0 in
    let told = subst (λ (w : Option Wrong). Tells w fault) (sym wrong) (tells-first word tries fault ((c.in_err-word.ensures {u = tt}).err)) in
    let p = err_from_is_err_and c.from_residual-in_err-word.result c.from_residual-in_err-word.ensures.1 in rw (p.1, p.2) told

pub returns-in_err-tries-clause-err : goal.returns-in_err-tries-clause-err
returns-in_err-tries-clause-err c =
    let rows = rows_of (found_of c.args.matches.now) in
    let given = c.in_ok-file.field-0 in
    let until = first_of (codes "until") rows in
    let tries = wrong_tries (first_of (codes "tries") rows) in
    let right = given-right rows (string_bytes given.file) given.turns given.stop c.in_ok-file.ensures.ok in
    let wrong = ap (λ (w : Option Wrong). first_wrong w (first_wrong (wrong_file until) tries)) right
    ∙ ap (λ (w : Option Wrong). first_wrong w tries) (file-right until (string_bytes c.in_ok-word.word) c.in_ok-word.ensures.ok) in
    let fault = c.in_err-tries.field-0.0 in
    let read = subst (λ (text : Option (List ℕ)). Tells (wrong_tries text) fault) c.given.ensures ((c.in_err-tries.ensures {u = tt}).err) in
    let told = subst (λ (w : Option Wrong). Tells w fault) (sym wrong) read in
    let p = err_from_is_err_and c.from_residual-in_err-tries.result c.from_residual-in_err-tries.ensures.1 in rw (p.1, p.2) told
