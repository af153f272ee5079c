-- The first place of the list comes off it.
use Rattle.std.proofs.Common.{◌≡◌, ◌<◌, true, ℕ, refl, ap, sym, ◌∙◌, subst}
use Rattle.std.proofs.lemmas.Bool.{false≢true}
use Rattle.keybits.specs.Shapes.{is_place}
use Rattle.freelists.proofs.FreeLemmas.{numbered}
use Rattle.poolsteps.specs.Grids.{IsSpot}
use Rattle.poolsteps.specs.Layout.{shard_start, spots_at}
use Rattle.shardpool.specs.Tokens.{LaneOf}
use Rattle.shardpool.specs.Creates.{Pops}
use Rattle.shardpool.specs.Lanes.{Made}
use Rattle.shardpool.proofs.calls.Ends.{fits-beside, own-placed}
use Rattle.shardpool.proofs.frame.LaneFacts.{lane_of}
use Rattle.shardpool.proofs.free.OwnLists.{listed-object, popped-inside, popped-fits, popped, popped-fillings}
use Rattle.shardpool.proofs.create.pop.Goals as goal

pub take_own-requires-clause-shape : goal.take_own-requires-clause-shape
take_own-requires-clause-shape g c = c.lane.invariant.1.seat.shape

pub take_own-requires-clause-lane : goal.take_own-requires-clause-lane
take_own-requires-clause-lane g c =
    let fits = c.lane.invariant.1 in
    subst (λ (n : ℕ). n < c.lane.inside.state.shape.lanes) (fits.seat.number_is ∙ sym fits.stores.lists.0) fits.seat.below

pub take_own-requires-clause-lists : goal.take_own-requires-clause-lists
take_own-requires-clause-lists g c = c.lane.invariant.1.stores.lists.1

pub take_own-requires-clause-begins : goal.take_own-requires-clause-begins
take_own-requires-clause-begins g c = let fits = c.lane.invariant.1 in fits.rights.first_is ∙ ap (shard_start c.lane.inside.state.shape) (fits.seat.number_is ∙ sym fits.stores.lists.0)

pub take_own-requires-clause-objects : goal.take_own-requires-clause-objects
take_own-requires-clause-objects g c = listed-object c.lane.invariant.1

pub take_own-requires-clause-placed : goal.take_own-requires-clause-placed
take_own-requires-clause-placed g c = own-placed (fits-beside c.lane.invariant.1)

pub invariant_of-lane-2 : goal.invariant_of-lane-2
invariant_of-lane-2 g c = (c.lane.invariant.0, popped-fits c.lane.invariant.1 c.in_ok-spot.ensures.0)

pub returns-clause-some : goal.returns-clause-some
returns-clause-some g c =
    let content = g.T.Clear.content in
    let room = g.T.Clear.room in
    let new : LaneOf = lane_of c.lane.inside.hand.table_id c.lane.inside.hand.me.0 c.take_own.new.state in
    subst (λ (lane : LaneOf). Pops content room lane new c.in_ok-spot.spot.place c.in_ok-spot.whole.object) c.lane.view_is
    (subst (λ (n : ℕ). Pops content room (lane_of c.lane.inside.hand.table_id c.lane.inside.hand.me.0 c.lane.inside.state) new n c.in_ok-spot.whole.object)
    (sym (numbered c.in_ok-spot.spot.place))
    (popped c.lane.invariant.1 c.in_ok-spot.ensures.0 c.lane.inside.hand.table_id))

pub returns-clause-spot : goal.returns-clause-spot
returns-clause-spot g c =
    let z = c.lane.inside.state.shape in
    let place = c.in_ok-spot.spot.place in
    let spot : IsSpot z c.in_ok-spot.spot place = record {
      place_is = refl;
      inside = subst (λ (n : ℕ). is_place z n ≡ true) (sym (numbered place)) (popped-inside c.lane.invariant.1 c.in_ok-spot.ensures.0).is_in;
      start = c.in_ok-spot.ensures.1;
    } in
    subst (λ (lane : LaneOf). IsSpot lane.shape c.in_ok-spot.spot place) c.lane.view_is spot

pub returns-clause-at : goal.returns-clause-at
returns-clause-at g c =
    subst (λ (lane : LaneOf). c.in_ok-spot.whole.spot ≡ spots_at lane.directory lane.shape c.in_ok-spot.spot.place) c.lane.view_is c.in_ok-spot.ensures.2

pub returns-clause-fillings : goal.returns-clause-fillings
returns-clause-fillings g c = λ filling made.
    popped-fillings c.lane.invariant.1 c.in_ok-spot.ensures.0 c.lane.inside.hand.table_id filling (subst (λ (lane : LaneOf). Made lane filling) (sym c.lane.view_is) made)

pub returns-clause-none : goal.returns-clause-none
returns-clause-none g c = λ none. absurd (false≢true (sym none))

pub returns-in_err-spot-clause-some : goal.returns-in_err-spot-clause-some
returns-in_err-spot-clause-some g c = rw c.from_residual.ensures tt

pub returns-in_err-spot-clause-spot : goal.returns-in_err-spot-clause-spot
returns-in_err-spot-clause-spot g c = rw c.from_residual.ensures tt

pub returns-in_err-spot-clause-at : goal.returns-in_err-spot-clause-at
returns-in_err-spot-clause-at g c = rw c.from_residual.ensures tt
