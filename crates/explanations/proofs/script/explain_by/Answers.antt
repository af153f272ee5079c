use Rattle.std.proofs.Common.{◌≡◌, ◌∙◌, Option, ap, drop}
use Rattle.std.proofs.lemmas.Result.{IfOk-weaker}
use Rattle.json.specs.Json.{Json}
use Rattle.json.specs.Value.{value_view}
use Rattle.streams.specs.Shown.{line_text}
use Rattle.explanations.specs.ScriptTexts.{script_told, line_at, may_begin, number_if}
use Rattle.explanations.proofs.script.explain_by.Goals as goal

pub returns-clause-is : goal.returns-clause-is
returns-clause-is c =
    let file = c.args.file.now in
    let whole = value_view c.args.whole.now in
    let refusal = c.args.refusal.now in
    let begin = c.in_ok-begin.begin in
    let found : c.number_of-number.result ≡ number_if (may_begin (line_at refusal.place whole) (drop begin file)) begin file =
    c.number_of-number.ensures ∙ ap (λ (line : Option Json). number_if (may_begin line (drop begin file)) begin file) c.line_at.ensures in
    IfOk-weaker c.line_of.result _ _
    (λ text is. record {
      whole = whole;
      has = c.requires.value;
      begin = begin;
      is = is ∙ ap line_text (c.as_bytes.ensures.value ∙ c.in_ok-told.ensures ∙ ap (script_told refusal whole) found);
    })
    c.line_of.ensures.is
