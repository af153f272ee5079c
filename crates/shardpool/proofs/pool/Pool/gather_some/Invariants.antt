-- The rows of the pages so far were gathered, and had no place.
use Rattle.std.proofs.Common.{◌≡◌, []}
use Rattle.shardpool.specs.Tokens.{FillingOf}
use Rattle.shardpool.specs.Lanes.{SameLane, Made}
use Rattle.shardpool.specs.Gathers.{GathersAll, rows_of_pages}
use Rattle.shardpool.proofs.pool.Pool.gather_some.Given as goal

abbrev pub invariant-loop-page : goal.invariant-loop-page
invariant-loop-page g l = record {
  gathers : GathersAll (rows_of_pages l.initial.lane.shape l.page) l.initial.lane l.lane;
  own : l.lane.free.own ≡ [];
  same : SameLane l.initial.lane l.lane × (l.lane.pages ≡ l.initial.lane.pages);
  fillings : (filling : FillingOf g.row.T.Denot) → Made l.initial.lane filling → Made l.lane filling;
}
