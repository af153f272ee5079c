-- The lanes that were opened may work, and what comes back of them are all lanes of the pool.
use Rattle.std.proofs.Common.{List, sym, ap, ◌∙◌, subst}
use Rattle.keybits.specs.declared.shape.Shape.{Shape}
use Rattle.shardpool.specs.Tokens.{LaneOf}
use Rattle.shardpool.specs.Closings.{AreLanes}
use Rattle.workers.proofs.Lanes.{may-begin, are-lanes}
use Rattle.pooltests.proofs.test_worker_threads.run_all.Goals as goal

pub run_workers-requires-clause-may : goal.run_workers-requires-clause-may
run_workers-requires-clause-may g c lifetimes within =
    may-begin c.in-Ok.pool c.in-Ok.lanes.items c.in-Ok-jobs_of.jobs.items c.in-Ok.ensures.lanes c.in-Ok-jobs_of.ensures.lanes

pub close-census-requires : goal.close-census-requires
close-census-requires g c = record {
  lanes = subst (λ (lanes : List LaneOf). AreLanes c.in-Ok.pool lanes) (sym c.in-Ok-parts_of.ensures.lanes)
      (are-lanes c.in-Ok.pool c.in-Ok.lanes.items c.in-Ok-jobs_of.jobs.items c.in-Ok-run_workers.dones.items
      (ap (λ (shape : Shape). shape.guests) c.in-Ok.ensures.pool ∙ c.requires) c.in-Ok.ensures.lanes
      c.in-Ok-jobs_of.ensures.lanes c.in-Ok-run_workers.ensures.answers);
}
