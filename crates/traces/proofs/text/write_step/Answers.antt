use Rattle.std.proofs.Common.{◌≡◌, ℕ, List, ◌++◌, ◌∙◌, ap, codes}
use Rattle.std.specs.Fmt.{decimal}
use Rattle.std.proofs.lemmas.Result.{on_ok_weaker, on_err_weaker}
use Rattle.traces.specs.Text.{kind_text, word_text}
use Rattle.traces.proofs.TextLemmas.{prefix_before, appended, step_parts, on_err}
use Rattle.traces.proofs.text.write_step.Goals as goal

pub returns-in_err-write_number-clause-err : goal.returns-in_err-write_number-clause-err
returns-in_err-write_number-clause-err c = on_err _ c.in_err-write_number.ensures.err

pub returns-in_err-write_field-clause-err : goal.returns-in_err-write_field-clause-err
returns-in_err-write_field-clause-err c = on_err _ (prefix_before _ _ _ _ c.in_ok-write_number.ensures.ok c.in_err-write_field.ensures.err)

pub returns-in_err-write_word-clause-err : goal.returns-in_err-write_word-clause-err
returns-in_err-write_word-clause-err c =
    on_err _
    (prefix_before _ _ _ _ c.in_ok-write_number.ensures.ok
    (prefix_before _ _ _ _ c.in_ok-write_field.ensures.ok c.in_err-write_word.ensures.err))

pub returns-clause-ok : goal.returns-clause-ok
returns-clause-ok c =
    let old = c.args.out.now.items in
    let lane = decimal c.args.lane in
    let step = c.args.step.now in
    let kind = codes " " ++ kind_text step.kind ++ codes " " in
    let word = word_text step.word in
    let values = codes " " ++ decimal step.before ++ (codes " " ++ decimal step.after) ++ codes "\n" in
    let number : c.write_number.new.out.items ≡ old ++ lane = c.in_ok-write_number.ensures.ok ∙ ap (λ (n : ℕ). old ++ decimal n) c.from.ensures in
    let field : c.write_field.new.out.items ≡ c.write_number.new.out.items ++ kind
    = c.in_ok-write_field.ensures.ok ∙ ap (λ (name : List ℕ). c.write_number.new.out.items ++ (codes " " ++ name ++ codes " ")) c.kind_name.ensures in
    on_ok_weaker c.write_values.result
    (λ f. appended old (lane ++ kind ++ word) values _ _
    (appended old (lane ++ kind) word _ _ (appended old lane kind _ _ number field) c.in_ok-write_word.ensures.ok) f
    ∙ ap (λ (text : List ℕ). old ++ text) (step_parts lane (kind_text step.kind) word (decimal step.before) (decimal step.after)))
    c.write_values.ensures.ok

pub returns-clause-err : goal.returns-clause-err
returns-clause-err c =
    on_err_weaker c.write_values.result
    (λ p. prefix_before _ _ _ _ c.in_ok-write_number.ensures.ok
    (prefix_before _ _ _ _ c.in_ok-write_field.ensures.ok
    (prefix_before _ _ _ _ c.in_ok-write_word.ensures.ok p)))
    c.write_values.ensures.err
