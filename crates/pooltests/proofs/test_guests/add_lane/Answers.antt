-- Where a lane was pushed it is the last of the row, and else the row is as it was.
use Rattle.std.proofs.Common.{List, sym, subst}
use Rattle.shardpool.specs.Tokens.{LaneOf}
use Rattle.guards.specs.Rows.{AreLanesOf}
use Rattle.pooltests.proofs.PoolRows.{lanes_more}
use Rattle.pooltests.proofs.test_guests.add_lane.Goals as goal

pub returns-in_err-push : goal.returns-in_err-push
returns-in_err-push g c = subst (λ (lanes : List LaneOf). AreLanesOf g.N.PoolName.pool lanes) (sym c.in_err-push.ensures.items) c.requires

pub returns : goal.returns
returns g c =
    subst (λ (lanes : List LaneOf). AreLanesOf g.N.PoolName.pool lanes) (sym c.in_ok-push.ensures.items)
    (lanes_more g.N.PoolName.pool c.args.lanes.now.items c.into_lane.result c.requires c.into_lane.ensures)
