use Rattle.std.proofs.Common.{refl}
use Rattle.poolprogram.proofs.tasks.do_task.Goals as goal

pub returns-in-Replay-clause-ok : goal.returns-in-Replay-clause-ok
returns-in-Replay-clause-ok g c = rw c.in-Replay.is (c.in_ok-made-in-Replay.made, refl, c.in_ok-made-in-Replay.ensures.ok)
