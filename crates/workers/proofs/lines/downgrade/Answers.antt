use Rattle.std.proofs.Common.{sym}
use Rattle.workers.specs.Lines.{register_at}
use Rattle.workers.proofs.Keeping.{filling-light, tidy-room}
use Rattle.workers.proofs.Running.{runs-downgrade}
use Rattle.workers.proofs.lines.downgrade.Goals as goal

pub downgrade-reference-requires-clause-made : goal.downgrade-reference-requires-clause-made
downgrade-reference-requires-clause-made c = c.requires.tidy.made c.args.register.number c.in-Some.filling (sym c.in-Some.ensures.filling)

pub downgrade-reference-requires-clause-room : goal.downgrade-reference-requires-clause-room
downgrade-reference-requires-clause-room c =
    tidy-room c.requires.tidy c.args.register.number c.args.register.small
    (filling-light (register_at c.args.registers.now c.args.register.number).held c.in-Some.filling (sym c.in-Some.ensures.filling)).0

pub returns : goal.returns
returns c =
    let did = c.downgrade-reference.ensures in
    runs-downgrade c.args.register c.requires.tidy did.owns c.in-Some.filling (sym c.in-Some.ensures.filling) did.fillings did.called did.publishes did.refs did.room
    c.downgrade-reference.result c.key-key.result c.take_filling.new.registers c.hold.new.registers did.key.0 c.key-key.ensures c.in-Some.ensures.registers c.hold.ensures
