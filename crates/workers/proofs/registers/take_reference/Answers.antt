use Rattle.std.proofs.Common.{rules, ◌≡◌, ◌<◌, true, length, is_some, sym, ap, ◌∙◌}
use Rattle.workers.specs.Held.{reference_in}
use Rattle.workers.proofs.Setting.{put-back, taken-out}
use Rattle.workers.proofs.registers.take_reference.Goals as goal

pub returns-then-not-is_reference-clause-registers : goal.returns-then-not-is_reference-clause-registers
returns-then-not-is_reference-clause-registers c = put-back c.args.registers.now c.args.number.number c.index-registers-number.result (search rules)

pub returns-clause-registers : goal.returns-clause-registers
returns-clause-registers c =
    let low : c.args.number.number < length c.args.registers.now = search rules in
    let some : true ≡ is_some c.into_reference.result = c.if-not-is_reference.ensures ∙ ap is_some (sym (c.into_reference.ensures ∙ ap reference_in c.replace.ensures.value)) in
    taken-out c.into_reference.result c.args.registers.now c.args.number.number c.index-registers-number.result c.replace.new.dest low some c.replace.ensures.after
