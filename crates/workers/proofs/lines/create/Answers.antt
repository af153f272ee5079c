use Rattle.std.proofs.Common.{Err, inl, inr, refl, sym, ap}
use Rattle.traces.specs.declared.reply.Reply.TheVariants as replies
use Rattle.workers.proofs.Running.{runs-create, runs-uncreated}
use Rattle.workers.proofs.lines.create.Goals as goal

pub returns-in-Ok : goal.returns-in-Ok
returns-in-Ok c =
    let did = c.in-Ok.ensures in
    runs-create c.args.register c.requires.tidy did.owns did.fillings (sym c.if-not-is_free.ensures) c.in-Ok.filling did.gives c.key-key.result c.hold_new.new.registers
    c.key-key.ensures c.hold_new.ensures

pub returns-in-Err-Full : goal.returns-in-Err-Full
returns-in-Err-Full c =
    let did = c.in-Err-Full.ensures in
    runs-uncreated c.args.register c.requires.tidy did.owns did.fillings (sym c.if-not-is_free.ensures) (did.none refl) did.refs replies.Full (inl (refl, did.full (ap Err c.in-Err-Full.field-0-is)))

pub returns-in-Err-Memory : goal.returns-in-Err-Memory
returns-in-Err-Memory c =
    let did = c.in-Err-Memory.ensures in
    runs-uncreated c.args.register c.requires.tidy did.owns did.fillings (sym c.if-not-is_free.ensures) (did.none refl) did.refs replies.Memory (inr (refl, did.memory (ap Err c.in-Err-Memory.field-0-is)))
