-- The places of the row are with the lane, and what it keeps stays as it is.
use Rattle.std.proofs.Common.{◌<◌, ℕ, sym, ◌∙◌, subst}
use Rattle.keybits.specs.declared.shape.Shape.{Shape}
use Rattle.poolsteps.specs.Layout.{row_count}
use Rattle.poolsteps.specs.Returned.{Gathers, NoneGiven}
use Rattle.poolsteps.specs.Views.{the_lane}
use Rattle.shardpool.specs.Tokens.{PoolOf, LaneOf}
use Rattle.shardpool.specs.Lanes.{Made}
use Rattle.shardpool.specs.Gathers.{GathersRow}
use Rattle.shardpool.proofs.frame.LaneFacts.{lane_of}
use Rattle.shardpool.proofs.frame.SeenHistories.{same-shape}
use Rattle.shardpool.proofs.free.Gathers.{Gathered, gathered, gathered-held, gathered-fits, gathers-row, gathered-fillings}
use Rattle.shardpool.proofs.pool.Pool.gather_row.Given.{Over}
use Rattle.shardpool.proofs.pool.Pool.gather_row.Goals as goal
use Rattle.shardpool.proofs.pool.Pool.gather_row.Goals.{After-gather_row}

pub gather_row-requires-clause-lane : goal.gather_row-requires-clause-lane
gather_row-requires-clause-lane g c =
    let seat = c.lane.invariant.1.seat in
    (seat.number_is, subst (λ (z : Shape). c.lane.inside.state.number < z.lanes) (sym (same-shape c.lane.view_is c.requires.owns.1 c.self.view_is)) seat.below)

pub gather_row-requires-clause-row : goal.gather_row-requires-clause-row
gather_row-requires-clause-row g c = subst (λ (p : PoolOf). c.args.row < row_count p.shape) (sym c.self.view_is) c.requires.row

-- what the GATHER tells, by the lane's shape
told : (g : Over) (c : After-gather_row g) → Gathered c.lane.inside.state.shape c.args.row c.gather_row.result c.lane.inside.hand.me.0 c.gather_row.new.hand.me.0
told g c =
    let same = same-shape c.lane.view_is c.requires.owns.1 c.self.view_is in
    gathered c.args.row (subst (λ (z : Shape). Gathers z c.args.row c.lane.inside.hand.me c.gather_row.result c.gather_row.new.hand.me) same c.gather_row.ensures.gathers)
    (subst (λ (z : Shape). NoneGiven z c.gather_row.new.hand.me.0.seen (the_lane c.lane.inside.hand.me.0).lane c.args.row) same
    (subst (λ (l : ℕ). NoneGiven c.self.inside.grid.shape c.gather_row.new.hand.me.0.seen l c.args.row) c.lane.invariant.1.seat.number_is c.gather_row.ensures.none_left))

pub invariant_of-lane : goal.invariant_of-lane
invariant_of-lane g c = (gathered-held c.args.row c.gather_row.ensures.gathers ∙ c.lane.invariant.0, gathered-fits c.lane.invariant.1 (told g (goal.at.invariant_of-lane g c).After-gather_row))

pub returns-clause-gathers : goal.returns-clause-gathers
returns-clause-gathers g c =
    let new : LaneOf = lane_of c.gather_row.new.hand.table_id c.gather_row.new.hand.me.0 c.lane.inside.state in
    subst (λ (lane : LaneOf). GathersRow c.args.row c.gather_row.result lane new) c.lane.view_is
    (gathers-row c.lane.invariant.1 (told g (goal.at.returns-clause-gathers g c).After-gather_row) c.lane.inside.hand.table_id c.gather_row.new.hand.table_id c.gather_row.ensures.hand.0)

pub returns-clause-fillings : goal.returns-clause-fillings
returns-clause-fillings g c = λ filling made.
    gathered-fillings c.lane.invariant.1 (told g (goal.at.returns-clause-fillings g c).After-gather_row) c.lane.inside.hand.table_id c.gather_row.new.hand.table_id c.gather_row.ensures.hand.0 filling
    (subst (λ (lane : LaneOf). Made lane filling) (sym c.lane.view_is) made)
