use Rattle.std.proofs.Common.{sym}
use Rattle.workers.proofs.Running.{runs-publish}
use Rattle.workers.proofs.lines.publish.Goals as goal

pub publish-requires-clause-made : goal.publish-requires-clause-made
publish-requires-clause-made c = c.requires.tidy.made c.args.register.number c.in-Some.filling (sym c.in-Some.ensures.filling)

pub returns : goal.returns
returns c =
    let did = c.publish.ensures in
    runs-publish c.args.register c.requires.tidy did.owns c.in-Some.filling (sym c.in-Some.ensures.filling) did.fillings did.called did.publishes did.refs did.room
    c.publish.result c.take_filling.new.registers did.key c.in-Some.ensures.registers
