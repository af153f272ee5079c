-- The answers are those of what was begun.
use Rattle.std.proofs.Common.{arith}
use Rattle.workers.specs.Begins.{IsBegun}
use Rattle.workers.proofs.Pairs.{pairs-length, all-hold, answers-of}
use Rattle.workers.proofs.threads.fn.run_workers.scope.Goals as goal

pub finish_all-requires : goal.finish_all-requires
finish_all-requires g c =
    let jobs = c.captures.jobs.items in
    let begun = c.begin_all-begun.result.items in
    let starts = c.begin_all-begun.ensures.begun in record {
      hold = all-hold g.G.Gate.says c.captures.gate.now jobs begun starts;
      room = (c.requires.dones.0, omega (arith, pairs-length (IsBegun g.G.Gate.says c.captures.gate.now) jobs begun starts, c.requires.dones.1));
    }

pub returns : goal.returns
returns g c =
    let jobs = c.captures.jobs.items in
    let begun = c.begin_all-begun.result.items in
    let dones = c.finish_all.result.items in record {
      answers = answers-of g.G.Gate.says c.captures.gate.now jobs begun dones c.begin_all-begun.ensures.begun c.finish_all.ensures.finished;
    }
