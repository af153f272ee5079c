-- What a job came to that was run in the caller's thread is its answer.
use Rattle.std.proofs.Common.{subst}
use Rattle.workers.specs.Works.{Answer}
use Rattle.workers.proofs.threads.begin.Goals as goal

pub returns-in-Err : goal.returns-in-Err
returns-in-Err g c = record {
  begun = (
    c.of.ensures,
    c.of-2.ensures,
    rw c.of.ensures (rw c.of-2.ensures (subst (λ f. Answer (g.G.Gate.says f.4.now) (record { lane = f.2; script = f.3 }) c.run.result) c.in-Err.ensures.err c.run.ensures.answer)),
  );
}
