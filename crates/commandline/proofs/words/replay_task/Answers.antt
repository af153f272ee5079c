use Rattle.std.proofs.Common.{◌≡◌, ◌∙◌, ◌&&◌, [], Bool, true, Option, codes, string_bytes, sym, ap, subst}
use Rattle.clap.specs.Words.{found_of, rows_of}
use Rattle.commandline.specs.CommandLines.{is_flagged}
use Rattle.commandline.specs.Mistakes.{Tells, Wrong, wrong_if, wrong_given}
use Rattle.commandline.specs.declared.mistakes.Reason.TheVariants.{TwoTexts}
use Rattle.commandline.proofs.WrongLemmas.{both-true, given-right, wrong-then}
use Rattle.commandline.proofs.words.replay_task.Goals as goal

pub returns-then-acts-clause-err : goal.returns-then-acts-clause-err
returns-then-acts-clause-err c =
    let rows = rows_of (found_of c.args.matches.now) in
    let given = c.in_ok-file.field-0 in
    let printed = is_flagged (codes "print-schedule") rows in
    let acts = is_flagged (codes "acts") rows in
    let two : (printed && acts) ≡ true = both-true printed acts (sym c.is_used.ensures ∙ c.if-not-is_used.false) (sym c.is_used-acts.ensures ∙ c.if-acts.true) in
    let right = given-right rows (string_bytes given.file) given.turns given.stop c.in_ok-file.ensures.ok in
    let wrong = wrong-then (wrong_given rows) (wrong_if (printed && acts) TwoTexts) (TwoTexts, []) right (ap (λ (b : Bool). wrong_if b TwoTexts) two) in
    subst (λ (w : Option Wrong). Tells w c.mistaken_without.result) (sym wrong) c.mistaken_without.ensures
