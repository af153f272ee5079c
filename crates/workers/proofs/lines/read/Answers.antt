use Rattle.std.proofs.Common.{rules, ◌<◌, length, ap, ◌∙◌}
use Rattle.workers.specs.declared.registers.Register.{Register}
use Rattle.workers.specs.Held.{reference_in}
use Rattle.workers.proofs.Setting.{at-got}
use Rattle.workers.proofs.Keeping.{least-held}
use Rattle.workers.proofs.Running.{read-content}
use Rattle.workers.proofs.lines.read.Goals as goal

pub read-requires : goal.read-requires
read-requires c =
    let low : c.args.register.number < length c.args.registers.now = search rules in
    let at = at-got c.args.registers.now c.args.register.number c.index-registers-register.result low in
    least-held c.args.lane.now c.args.registers.now c.requires.held c.args.register.number low c.in-Reference.reference (ap (λ (r : Register). reference_in r.held) at ∙ ap reference_in c.in-Reference.is)

pub returns-in-Reference : goal.returns-in-Reference
returns-in-Reference c =
    let low : c.args.register.number < length c.args.registers.now = search rules in
    let at = at-got c.args.registers.now c.args.register.number c.index-registers-register.result low in
    read-content c.args.lane.now c.args.registers.now c.args.register c.in-Reference.reference c.read.result.now.bytes c.as_slice.result.now c.content.result
    (ap (λ (r : Register). reference_in r.held) at ∙ ap reference_in c.in-Reference.is) c.read.ensures c.as_slice.ensures c.content.ensures
