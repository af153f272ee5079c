use Rattle.explanations.proofs.Fields.{fields-more, fields-end, shorter}
use Rattle.explanations.proofs.acts_fields.fields_of.Goals as goal

pub loop-field-preserved : goal.loop-field-preserved
loop-field-preserved c =
    fields-more c.loop-field.fields.items c.push.new.self.items c.in-Some.field c.args.line.now c.loop-field.rest.now c.in-Some.after.now c.in_ok-push.ensures.items c.in-Some.ensures.0
    c.in-Some.ensures.1 c.loop-field.invariant

pub loop-field-smaller : goal.loop-field-smaller
loop-field-smaller c = shorter 32 c.loop-field.rest.now c.in-Some.field.now c.in-Some.after.now c.in-Some.ensures.0

pub returns : goal.returns
returns c =
    fields-end c.loop-field.fields.items c.push-2.new.self.items c.loop-field.rest c.args.line.now c.in_ok-push-2.ensures.items c.in_default.ensures c.loop-field.invariant
