use Rattle.std.proofs.Common.{rules, ◌≡◌, ◌<◌, true, length, is_some, sym, ap, ◌∙◌}
use Rattle.workers.specs.Held.{filling_in}
use Rattle.workers.proofs.Setting.{put-back, taken-out}
use Rattle.workers.proofs.registers.take_filling.Goals as goal

pub returns-then-not-is_filling-clause-registers : goal.returns-then-not-is_filling-clause-registers
returns-then-not-is_filling-clause-registers c = put-back c.args.registers.now c.args.number.number c.index-registers-number.result (search rules)

pub returns-clause-registers : goal.returns-clause-registers
returns-clause-registers c =
    let low : c.args.number.number < length c.args.registers.now = search rules in
    let some : true ≡ is_some c.into_filling.result = c.if-not-is_filling.ensures ∙ ap is_some (sym (c.into_filling.ensures ∙ ap filling_in c.replace.ensures.value)) in
    taken-out c.into_filling.result c.args.registers.now c.args.number.number c.index-registers-number.result c.replace.new.dest low some c.replace.ensures.after
