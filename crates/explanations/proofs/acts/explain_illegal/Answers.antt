use Rattle.std.proofs.Common.{◌<◌, ◌∙◌, length, ap, sym, string_bytes, refl}
use Rattle.std.proofs.lemmas.Bool.{ltb-true}
use Rattle.std.proofs.lemmas.Option.{slice_get_read}
use Rattle.std.proofs.lemmas.Result.{IfOk-weaker}
use Rattle.streams.specs.Shown.{line_text}
use Rattle.explanations.specs.ActsTexts.{illegal_told}
use Rattle.explanations.proofs.acts.explain_illegal.Goals as goal

pub returns-clause-is : goal.returns-clause-is
returns-clause-is c =
    let acts = c.args.acts.now in
    let index = c.args.index in
    let found = c.in-Some.ensures.lookup in
    let within : index < length acts = ltb-true index (length acts) (sym found.0) in
    IfOk-weaker c.line_of.result _ _
    (λ text is. record {
      shape = c.args.shape;
      history = acts;
      stands = c.requires.stands;
      index = index;
      fault = c.args.fault;
      illegal = c.requires.illegal;
      act = c.in-Some.act.now;
      at = slice_get_read acts (length acts) index c.in-Some.act.now refl within found.1;
      reason = string_bytes c.in_ok-reason.reason;
      tells = c.in_ok-reason.ensures;
      is = is ∙ ap line_text (c.as_bytes.ensures.value ∙ c.in_ok-told.ensures ∙ ap (illegal_told c.args.bytes.now index) c.as_str.ensures.value);
    })
    c.line_of.ensures.is
