-- The lanes that were opened may work, what comes back of them are all lanes of the pool, and the text tells of their workers and of its census.
use Rattle.std.proofs.Common.{ℕ, List, ◌++◌, sym, ap, ap₂, ◌∙◌, subst}
use Rattle.std.specs.List.{flat_map}
use Rattle.keybits.specs.declared.shape.Shape.{Shape}
use Rattle.shardpool.specs.Tokens.{LaneOf}
use Rattle.shardpool.specs.Closings.{AreLanes, Closes}
use Rattle.workers.proofs.Lanes.{may-begin, are-lanes}
use Rattle.poolprogram.specs.Runs.{AllReported, done_text}
use Rattle.poolprogram.proofs.run.run_plan.Goals as goal

pub run_workers-requires-clause-may : goal.run_workers-requires-clause-may
run_workers-requires-clause-may g c lifetimes within =
    may-begin c.in_ok-pool.pool c.in_ok-pool.lanes.items c.in_ok-jobs.jobs.items c.in_ok-pool.ensures.lanes c.in_ok-jobs.ensures.lanes

pub close-census-requires : goal.close-census-requires
close-census-requires g c = record {
  lanes = subst (λ (lanes : List LaneOf). AreLanes c.in_ok-pool.pool lanes) (sym c.in_ok-lanes.ensures.lanes)
      (are-lanes c.in_ok-pool.pool c.in_ok-pool.lanes.items c.in_ok-jobs.jobs.items c.in-Ok.dones.items
      (ap (λ (shape : Shape). shape.guests) c.in_ok-pool.ensures.shape ∙ c.requires.shape.3) c.in_ok-pool.ensures.lanes
      c.in_ok-jobs.ensures.lanes c.in-Ok.ensures.answers);
}

pub returns-clause-ok : goal.returns-clause-ok
returns-clause-ok g c =
    let dones = c.in-Ok.dones.items in
    let told = c.in_ok-text.ensures.ok in record {
      pool = c.in_ok-pool.pool;
      shape = c.in_ok-pool.ensures.shape;
      lanes = c.in_ok-pool.lanes.items;
      first = c.in_ok-pool.ensures.lanes;
      jobs = c.in_ok-jobs.jobs.items;
      are_jobs = record { lanes_are = c.in_ok-jobs.ensures.lanes; scripts_are = c.in_ok-jobs.ensures.scripts ∙ c.into_vec.ensures };
      dones = dones;
      answers = c.in-Ok.ensures.answers;
      reported = subst AllReported c.as_slice.ensures.value told.0;
      census = c.close-census.result;
      closes = subst (λ (lanes : List LaneOf). Closes c.in_ok-pool.pool lanes c.close-census.result) c.in_ok-lanes.ensures.lanes c.close-census.ensures.closes;
      is = c.in_ok-extend_from_slice.ensures.items
          ∙ ap₂ (λ (xs ys : List ℕ). xs ++ ys) (told.1 ∙ ap (flat_map done_text) c.as_slice.ensures.value) (c.as_bytes.ensures.value ∙ c.in_ok-line.ensures);
    }
