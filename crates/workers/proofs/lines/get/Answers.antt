use Rattle.std.proofs.Common.{refl, sym, arith}
use Rattle.workers.specs.Lines.{register_at}
use Rattle.workers.proofs.Keeping.{empty-light, tidy-room}
use Rattle.shardpool.proofs.references.Holdings.{got-inside}
use Rattle.workers.proofs.Running.{runs-missed, runs-found}
use Rattle.workers.proofs.lines.get.Goals as goal

pub get-requires-clause-room : goal.get-requires-clause-room
get-requires-clause-room c =
    tidy-room c.requires.tidy c.args.register.number c.args.register.small
    (empty-light (register_at c.args.registers.now c.args.register.number).held (sym c.if-not-is_free.ensures)).0

pub get-requires-clause-owns : goal.get-requires-clause-owns
get-requires-clause-owns c = c.requires.tidy.owns

pub read-requires : goal.read-requires
read-requires c = c.in-Some-get.ensures.held.1

pub returns-in_default-get : goal.returns-in_default-get
returns-in_default-get c =
    let did = c.in_default-get.ensures in
    runs-missed c.requires.tidy did.owns c.args.operand c.in-Some.key (sym c.in-Some.ensures) did.fillings (omega (arith, did.refs)) c.args.register (sym c.if-not-is_free.ensures)
    (λ off. (did.outside off).1) did.called did.gets (did.no_more refl)

pub returns : goal.returns
returns c =
    let did = c.in-Some-get.ensures in
    let within = got-inside c.args.pool.now.shape c.in-Some.key c.args.lane.now c.get.new.lane c.in-Some-get.reference did.outside in
    runs-found c.requires.tidy did.owns c.args.operand c.in-Some.key (sym c.in-Some.ensures) did.fillings did.refs c.args.register (sym c.if-not-is_free.ensures) within
    (did.called within) c.in-Some-get.reference (did.gets within) c.get_law.ensures c.once_law.ensures.once c.read.result.now.bytes c.as_slice.result.now c.found-reply.result c.hold_new.new.registers
    c.read.ensures c.as_slice.ensures c.found-reply.ensures c.hold_new.ensures
