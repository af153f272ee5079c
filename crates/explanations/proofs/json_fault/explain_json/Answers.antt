use Rattle.std.proofs.Common.{◌∙◌, ap}
use Rattle.std.proofs.lemmas.Result.{IfOk-weaker}
use Rattle.streams.specs.Shown.{line_text}
use Rattle.explanations.proofs.json_fault.explain_json.Goals as goal

pub returns-clause-is : goal.returns-clause-is
returns-clause-is c =
    IfOk-weaker c.line_of.result _ _
    (λ text is. record { at = c.in_ok-at.at; halt = c.in_ok-at.halt; halts = c.in_ok-at.ensures.halts; is = is ∙ ap line_text (c.as_bytes.ensures.value ∙ c.in_ok-told.ensures) })
    c.line_of.ensures.is
