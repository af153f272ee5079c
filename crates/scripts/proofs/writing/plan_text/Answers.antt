use Rattle.std.proofs.Common.{String, Global, arith, string_bytes}
use Rattle.std.proofs.lemmas.Str.{IsUtf8-string_bytes}
use Rattle.std.proofs.lemmas.Result.{IfOk-weaker}
use Rattle.serde_json.specs.View.{view}
use Rattle.scripts.proofs.writing.plan_text.Goals as goal

pub returns : goal.returns
returns c =
    let value = view c.in_ok-value.value in
    let flat = c.in_ok-value.ensures.flat in
    IfOk-weaker c.to_string.result _ _
    (λ (text : String Global) reads. record {
      value = value;
      json = record { utf8 = IsUtf8-string_bytes text; value = reads (omega arith) };
      is = c.in_ok-value.ensures.is;
    })
    c.to_string.ensures.reads_back
