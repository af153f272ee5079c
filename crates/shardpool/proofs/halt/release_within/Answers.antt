use Rattle.std.proofs.Common.{inl}
use Rattle.shardpool.proofs.parts.Halting.{called-releases}
use Rattle.shardpool.proofs.halt.release_within.Goals as goal

pub returns-clause-called : goal.returns-clause-called
returns-clause-called g c = called-releases c.args.limit c.requires.call.act.hand.1 c.requires.seen c.requires.call.idle c.leave_within.ensures.leaves

pub leave_within-requires : goal.leave_within-requires
leave_within-requires g c =
    let share = rw c.requires.call.act.at.lane at c.requires.share in
    record { act = c.requires.call.act; may = λ some. inl (c.requires.call.idle, c.requires.held, share some) }
