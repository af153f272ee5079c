use Rattle.std.proofs.Common.{◌≡◌, ◌++◌, ◌∙◌, ℕ, sym, ap, codes}
use Rattle.std.specs.Fmt.{decimal}
use Rattle.std.proofs.lemmas.Result.{on_ok_weaker, on_err_weaker}
use Rattle.keybits.specs.declared.step.Word.{Word}
use Rattle.traces.specs.Text.{word_text}
use Rattle.traces.proofs.TextLemmas.{prefix_before, appended, on_err}
use Rattle.traces.proofs.text.write_word.Goals as goal

pub returns-in_err-write_number-in-Stack-clause-err : goal.returns-in_err-write_number-in-Stack-clause-err
returns-in_err-write_number-in-Stack-clause-err c = on_err _ c.in_err-write_number-in-Stack.ensures.err

pub returns-in_err-write_text-in-Stack-clause-err : goal.returns-in_err-write_text-in-Stack-clause-err
returns-in_err-write_text-in-Stack-clause-err c =
    on_err _
    (prefix_before _ _ _ _ c.in_ok-write_number-in-Stack.ensures.ok c.in_err-write_text-in-Stack.ensures.err)

pub returns-in_ok-write_text-in-Stack-clause-ok : goal.returns-in_ok-write_text-in-Stack-clause-ok
returns-in_ok-write_text-in-Stack-clause-ok c =
    let old = c.args.out.now.items in
    let shard = decimal c.in-Stack.shard in
    let number : c.write_number.new.out.items ≡ old ++ shard
    = c.in_ok-write_number-in-Stack.ensures.ok ∙ ap (λ (n : ℕ). old ++ decimal n) c.from.ensures in
    on_ok_weaker c.write_number-in-Stack.result
    (λ f. appended old (shard ++ codes ".") (decimal c.in-Stack.lane) _ _ (appended old shard (codes ".") _ _ number c.in_ok-write_text-in-Stack.ensures.ok)
    (f ∙ ap (λ (n : ℕ). c.write_text.new.out.items ++ decimal n) c.from-in-Stack.ensures)
    ∙ sym (ap (λ (word : Word). old ++ word_text word) c.in-Stack.is))
    c.write_number-in-Stack.ensures.ok

pub returns-in_ok-write_text-in-Stack-clause-err : goal.returns-in_ok-write_text-in-Stack-clause-err
returns-in_ok-write_text-in-Stack-clause-err c =
    on_err_weaker c.write_number-in-Stack.result
    (λ p. prefix_before _ _ _ _ c.in_ok-write_number-in-Stack.ensures.ok
    (prefix_before _ _ _ _ c.in_ok-write_text-in-Stack.ensures.ok p))
    c.write_number-in-Stack.ensures.err
