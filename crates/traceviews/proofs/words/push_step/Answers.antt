use Rattle.std.proofs.Common.{◌++◌, ◌∙◌, ℕ, List, ap, codes, decimal}
use Rattle.traces.specs.Text.{kind_text}
use Rattle.traces.proofs.TextLemmas.{appended}
use Rattle.traceviews.specs.Lines.{kind_of}
use Rattle.traceviews.specs.Decoded.{aim_text, value_text, failed_text}
use Rattle.traceviews.proofs.words.push_step.Goals as goal

pub returns : goal.returns
returns c = λ whole.
    let values = c.push_values.ensures whole in
    let third = c.text-4.ensures values.0 in
    let aim = c.aim.ensures third.0 in
    let second = c.text-3.ensures aim.0 in
    let name = c.text-2.ensures second.0 in
    let first = c.text.ensures name.0 in
    let lane = c.number.ensures first.0 in
    let step = c.args.step.now in
    let old = c.args.out.now.bytes.items in
    let one = c.number.new.self.bytes.items in
    let two = c.text.new.self.bytes.items in
    let three = c.text-2.new.self.bytes.items in
    let four = c.text-3.new.self.bytes.items in
    let five = c.aim.new.self.bytes.items in
    let six = c.text-4.new.self.bytes.items in
    let new = c.push_values.new.out.bytes.items in
    let begun = decimal c.args.lane ++ codes " " in
    let named = begun ++ kind_text (kind_of step.name) in
    let aimed = named ++ codes " " ++ aim_text step.word in (
      lane.0,
      appended old (aimed ++ codes " ")
          (value_text step.word step.before ++ codes " -> " ++ value_text step.word step.after ++ failed_text step) six new
          (appended old aimed (codes " ") five six
          (appended old (named ++ codes " ") (aim_text step.word) four five
          (appended old named (codes " ") three four
          (appended old begun (kind_text (kind_of step.name)) two three
          (appended old (decimal c.args.lane) (codes " ") one two
          (lane.1 ∙ ap (λ (n : ℕ). old ++ decimal n) c.from.ensures) first.1)
          (name.1 ∙ ap (λ (text : List ℕ). two ++ text) c.step_name.ensures))
          second.1) aim.1) third.1) values.1,
    )
