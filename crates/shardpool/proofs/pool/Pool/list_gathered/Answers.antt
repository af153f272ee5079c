-- The gathered place's object is taken out of its slot, and both are the lane's own.
use Rattle.std.proofs.Common.{◌≡◌, ℕ, refl, sym, ap, ◌∙◌, subst, arith}
use Rattle.keybits.specs.declared.shape.Shape.{Shape}
use Rattle.keybits.specs.Shapes.{is_place, callers}
use denote.RawPtr.{Ptr}
use Rattle.poolsteps.specs.Told.{HasPlace}
use Rattle.poolsteps.specs.Shares.{HasAll, reclaimer}
use Rattle.poolsteps.specs.Layout.{shard_start, spots_at}
use Rattle.poolsteps.specs.Views.{the_lane}
use Rattle.poolsteps.specs.Grids.{IsSpot}
use Rattle.seatcalls.specs.Carried.{AreEmptied, AreAtRest, Carries}
use Rattle.shardpool.specs.Tokens.{LaneOf}
use Rattle.shardpool.specs.Lanes.{Made}
use Rattle.shardpool.specs.Gathers.{IsGathered, ListsGathered}
use Rattle.shardpool.proofs.frame.LaneFacts.{lane_of}
use Rattle.shardpool.proofs.frame.SeenHistories.{same-shape, same-directory}
use Rattle.shardpool.proofs.free.Gathers.{list-away, listed-fits, lists-gathered, listed-fillings}
use Rattle.shardpool.proofs.pool.Pool.list_gathered.Given.{Over}
use Rattle.shardpool.proofs.pool.Pool.list_gathered.Goals as goal
use Rattle.shardpool.proofs.pool.Pool.list_gathered.Goals.{After-spot-spot, After-take_resting-whole}

pub spot-spot-requires : goal.spot-spot-requires
spot-spot-requires g c =
    ap (λ (z : Shape). is_place z c.args.place) (same-shape c.lane.view_is c.requires.owns.1 c.self.view_is)
    ∙ (subst (λ (lane : LaneOf). IsGathered lane c.args.place) (sym c.lane.view_is) c.requires.gathered).filling.inside

-- the gathered place, where its spot says
here : (g : Over) (c : After-spot-spot g) → IsGathered (lane_of c.lane.inside.hand.table_id c.lane.inside.hand.me.0 c.lane.inside.state) c.spot-spot.result.place
here g c = subst (λ (p : ℕ). IsGathered (lane_of c.lane.inside.hand.table_id c.lane.inside.hand.me.0 c.lane.inside.state) p) (sym c.spot-spot.ensures.place_is)
    (subst (λ (lane : LaneOf). IsGathered lane c.args.place) (sym c.lane.view_is) c.requires.gathered)

-- the shape of the pool is the lane's
shape-is : (g : Over) (c : After-spot-spot g) → c.self.inside.grid.shape ≡ c.lane.inside.state.shape
shape-is g c = same-shape c.lane.view_is c.requires.owns.1 c.self.view_is

pub take_resting-whole-requires-clause-may : goal.take_resting-whole-requires-clause-may
take_resting-whole-requires-clause-may g c =
    let at = (goal.at.take_resting-whole-requires-clause-may g c).After-spot-spot in
    let seat = c.lane.invariant.1.seat in
    let gathered = here g at in record {
      hand = ((λ i. (c.lane.view_is i).table) ∙ (c.requires.owns.0 ∙ (λ i. (sym c.self.view_is i).table)), seat.one);
      spot = subst (IsSpot c.self.inside.grid.shape c.spot-spot.result) (sym c.spot-spot.ensures.place_is) c.spot-spot.ensures;
      below = let low = seat.below in let same = ap callers (shape-is g at) in omega (arith, low, same);
      place = subst (λ (z : Shape). HasPlace z c.lane.inside.hand.me.0 c.spot-spot.result.place) (sym (shape-is g at))
          (subst (HasAll (reclaimer c.lane.inside.hand.me.0.seen c.spot-spot.result.place) (the_lane c.lane.inside.hand.me.0).lane) (sym gathered.rests.with_lane) refl);
    }

pub take_resting-whole-requires-clause-slots : goal.take_resting-whole-requires-clause-slots
take_resting-whole-requires-clause-slots g c =
    let at = (goal.at.take_resting-whole-requires-clause-slots g c).After-spot-spot in
    subst (λ (z : Shape). AreAtRest z (the_lane c.lane.inside.hand.me.0) c.spot-spot.result.place) (sym (shape-is g at)) (here g at).rests.rests

-- what the looks did, by the lane's shape
moved : (g : Over) (c : After-take_resting-whole g) → Carries c.lane.inside.state.shape c.spot-spot.result.place 2 c.lane.inside.hand.me c.take_resting-whole.new.hand.me
moved g c = subst (λ (z : Shape). Carries z c.spot-spot.result.place 2 c.lane.inside.hand.me c.take_resting-whole.new.hand.me)
    (same-shape c.lane.view_is c.requires.owns.1 c.self.view_is) c.take_resting-whole.ensures.moves.carries

emptied : (g : Over) (c : After-take_resting-whole g) → AreEmptied c.lane.inside.state.shape (the_lane c.take_resting-whole.new.hand.me.0) c.spot-spot.result.place
emptied g c = subst (λ (z : Shape). AreEmptied z (the_lane c.take_resting-whole.new.hand.me.0) c.spot-spot.result.place)
    (same-shape c.lane.view_is c.requires.owns.1 c.self.view_is) c.take_resting-whole.ensures.slots

pub keep-requires-clause-shape : goal.keep-requires-clause-shape
keep-requires-clause-shape g c = c.lane.invariant.1.seat.shape

pub keep-requires-clause-spot : goal.keep-requires-clause-spot
keep-requires-clause-spot g c =
    let at = (goal.at.keep-requires-clause-spot g c).After-spot-spot in
    subst (λ (z : Shape). IsSpot z c.spot-spot.result c.spot-spot.result.place) (shape-is g at)
    (subst (IsSpot c.self.inside.grid.shape c.spot-spot.result) (sym c.spot-spot.ensures.place_is) c.spot-spot.ensures)

pub keep-requires-clause-begins : goal.keep-requires-clause-begins
keep-requires-clause-begins g c =
    let at = (goal.at.keep-requires-clause-begins g c).After-spot-spot in
    c.lane.invariant.1.rights.first_is ∙ ap (shard_start c.lane.inside.state.shape) (sym (here g at).filling.own)

pub keep-requires-clause-narrow : goal.keep-requires-clause-narrow
keep-requires-clause-narrow g c = c.lane.invariant.1.stores.narrow

pub keep-requires-clause-away : goal.keep-requires-clause-away
keep-requires-clause-away g c =
    let at = goal.at.keep-requires-clause-away g c in
    let gathered = here g at.After-spot-spot in
    list-away c.lane.inside.hand.table_id c.lane.invariant.1 gathered.filling gathered.rests (moved g at.After-take_resting-whole) (emptied g at.After-take_resting-whole)

pub keep-requires-clause-at : goal.keep-requires-clause-at
keep-requires-clause-at g c =
    let at = (goal.at.keep-requires-clause-at g c).After-spot-spot in
    c.take_resting-whole.ensures.cell.2
    ∙ (ap (λ (z : Shape). spots_at c.self.inside.grid.objects.ptr z c.spot-spot.result.place) (shape-is g at)
    ∙ ap (λ (d : Ptr). spots_at d c.lane.inside.state.shape c.spot-spot.result.place) (sym (same-directory c.lane.view_is c.requires.owns.2 c.self.view_is)))

pub invariant_of-lane : goal.invariant_of-lane
invariant_of-lane g c =
    let at = goal.at.invariant_of-lane g c in
    let gathered = here g at.After-spot-spot in
    let after = at.After-take_resting-whole in
    let cell = c.take_resting-whole.ensures.cell in (
      c.take_resting-whole.ensures.moves.carries.held ∙ c.lane.invariant.0,
      listed-fits c.lane.inside.hand.table_id c.lane.invariant.1 gathered.filling gathered.rests (moved g after) (emptied g after) cell.0 cell.1 c.keep.ensures,
    )

pub returns-clause-lists : goal.returns-clause-lists
returns-clause-lists g c =
    let at = goal.at.returns-clause-lists g c in
    let gathered = here g at.After-spot-spot in
    let after = at.After-take_resting-whole in
    let cell = c.take_resting-whole.ensures.cell in
    let new : LaneOf = lane_of c.take_resting-whole.new.hand.table_id c.take_resting-whole.new.hand.me.0 c.keep.new.state in
    let lists = lists-gathered c.lane.inside.hand.table_id c.lane.invariant.1 gathered.filling gathered.rests (moved g after) (emptied g after) cell.0 cell.1 c.keep.ensures
    c.take_resting-whole.new.hand.table_id c.take_resting-whole.ensures.moves.hand.0.0 in
    subst (λ (p : ℕ). ListsGathered p c.args.lane.now new) c.spot-spot.ensures.place_is
    (subst (λ (lane : LaneOf). ListsGathered c.spot-spot.result.place lane new) c.lane.view_is lists)

pub returns-clause-fillings : goal.returns-clause-fillings
returns-clause-fillings g c = λ filling made.
    let at = goal.at.returns-clause-fillings g c in
    let gathered = here g at.After-spot-spot in
    let after = at.After-take_resting-whole in
    let cell = c.take_resting-whole.ensures.cell in
    listed-fillings c.lane.inside.hand.table_id c.lane.invariant.1 gathered.filling gathered.rests (moved g after) (emptied g after) cell.0 cell.1 c.keep.ensures
    c.take_resting-whole.new.hand.table_id c.take_resting-whole.ensures.moves.hand.0.0 filling (subst (λ (lane : LaneOf). Made lane filling) (sym c.lane.view_is) made)
