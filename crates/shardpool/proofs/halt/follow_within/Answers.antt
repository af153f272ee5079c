use Rattle.std.proofs.Common.{[], arith}
use Rattle.steplaws.specs.Calls.Call.{Creating}
use Rattle.poolsteps.specs.Views.{the_lane}
use Rattle.shardpool.proofs.parts.Taking.{follow-called}
use Rattle.shardpool.proofs.parts.Within.{called-not}
use Rattle.shardpool.proofs.halt.follow_within.Goals as goal

pub returns-then-limit-gt0-clause-called : goal.returns-then-limit-gt0-clause-called
returns-then-limit-gt0-clause-called g c opened = follow-called c.follow.ensures.follows c.requires.chain opened c.args.limit c.if-limit-gt0.true

pub returns-else-limit-gt0-clause-called : goal.returns-else-limit-gt0-clause-called
returns-else-limit-gt0-clause-called g c opened =
    let none = c.if-limit-gt0.false in
    called-not (Creating [] (the_lane c.args.hand.now.me.0).chain opened) c.args.limit (omega (arith, none)) c.requires.hand.1 c.requires.seen
