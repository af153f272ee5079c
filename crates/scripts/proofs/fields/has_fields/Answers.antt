use Rattle.std.proofs.Common.{nat_eq, ap, ◌∙◌, sym}
use Rattle.serde_json.specs.View.{view}
use Rattle.scripts.proofs.Values.{has_fields_is}
use Rattle.scripts.proofs.fields.has_fields.Goals as goal

pub returns-in-Some : goal.returns-in-Some
returns-in-Some c = ap (λ n. nat_eq n c.args.count) c.len.ensures.len ∙ sym (has_fields_is (view c.args.value.now) c.in-Some.fields.now.entries c.args.count c.in-Some.ensures)
