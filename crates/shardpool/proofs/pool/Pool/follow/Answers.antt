-- The chain's first place is followed.
use Rattle.std.proofs.Common.{◌≡◌, ◌<◌, Option, Some, None, is_some, refl, ap, sym, ◌∙◌, subst}
use Rattle.std.proofs.lemmas.Bool.{false≢true}
use Rattle.keybits.specs.declared.place.Place.{Place}
use Rattle.poolsteps.specs.Views.{the_lane}
use Rattle.shardpool.specs.LaneStates.{IsFirst}
use Rattle.keybits.specs.declared.shape.Shape.{Shape}
use Rattle.seqpool.specs.Pool.{with}
use Rattle.poolsteps.specs.Grids.{IsSpot}
use Rattle.shardpool.specs.Tokens.{PoolOf, LaneOf}
use Rattle.shardpool.specs.Lanes.{Made}
use Rattle.shardpool.specs.Creates.{FollowsChain}
use Rattle.shardpool.proofs.frame.LaneFacts.{lane_of}
use Rattle.poolsteps.specs.Layout.{spots_at}
use Rattle.shardpool.proofs.frame.SeenHistories.{same-shape}
use Rattle.shardpool.proofs.free.Takes.{follows-here, hung-inside, hung-begins, hung-rests, follow-goes, followed-fits, followed-chain, followed-fillings}
use Rattle.shardpool.proofs.pool.Pool.follow.Goals as goal

-- ---- no taken place is still to be followed

pub returns-in_err-first-clause-none : goal.returns-in_err-first-clause-none
returns-in_err-first-clause-none g c = λ none.
    let hung : c.lane.inside.state.free.chain ≡ None = sym c.chain.ensures.first ∙ c.in_err-first.was in (
      refl,
      ap (λ (lane : LaneOf). (the_lane lane.book).chain) (sym c.lane.view_is)
          ∙ subst (λ (first : Option Place). IsFirst first (the_lane c.lane.inside.hand.me.0).chain) hung c.lane.invariant.1.stores.first,
    )

pub returns-in_err-first-clause-some : goal.returns-in_err-first-clause-some
returns-in_err-first-clause-some g c = rw c.from_residual.ensures tt

pub returns-in_err-first-clause-spot : goal.returns-in_err-first-clause-spot
returns-in_err-first-clause-spot g c = rw c.from_residual.ensures tt

pub returns-in_err-first-clause-at : goal.returns-in_err-first-clause-at
returns-in_err-first-clause-at g c = rw c.from_residual.ensures tt

pub returns-in_err-first-clause-fillings : goal.returns-in_err-first-clause-fillings
returns-in_err-first-clause-fillings g c = λ filling made. made

-- ---- the first is followed

pub follow_on-requires-clause-chain : goal.follow_on-requires-clause-chain
follow_on-requires-clause-chain g c =
    let hung : c.lane.inside.state.free.chain ≡ Some c.in_ok-first.first = sym c.chain.ensures.first ∙ c.in_ok-first.was in
    ap (λ (first : Option Place). is_some first) hung

pub returns-clause-none : goal.returns-clause-none
returns-clause-none g c = λ none. absurd (false≢true (sym none))

pub number-requires-clause-page : goal.number-requires-clause-page
number-requires-clause-page g c =
    let fits = c.lane.invariant.1 in
    let hung : c.lane.inside.state.free.chain ≡ Some c.in_ok-first.first = sym c.chain.ensures.first ∙ c.in_ok-first.was in
    (hung-inside fits hung c.chain.ensures.places).low_page

pub number-requires-clause-slot : goal.number-requires-clause-slot
number-requires-clause-slot g c =
    let fits = c.lane.invariant.1 in
    let hung : c.lane.inside.state.free.chain ≡ Some c.in_ok-first.first = sym c.chain.ensures.first ∙ c.in_ok-first.was in
    (hung-inside fits hung c.chain.ensures.places).low_slot

pub spot-spot-requires : goal.spot-spot-requires
spot-spot-requires g c =
    let hung : c.lane.inside.state.free.chain ≡ Some c.in_ok-first.first = sym c.chain.ensures.first ∙ c.in_ok-first.was in
    (hung-rests c.lane.invariant.1 hung (sym (same-shape c.lane.view_is c.requires.owns.1 c.self.view_is)) c.number.ensures).inside

pub follow-link-requires-clause-spot : goal.follow-link-requires-clause-spot
follow-link-requires-clause-spot g c = subst (IsSpot c.self.inside.grid.shape c.spot-spot.result) (sym c.spot-spot.ensures.place_is) c.spot-spot.ensures

pub follow-link-requires-clause-lane : goal.follow-link-requires-clause-lane
follow-link-requires-clause-lane g c =
    let seat = c.lane.invariant.1.seat in
    (seat.number_is, subst (λ (z : Shape). c.lane.inside.state.number < z.lanes) (sym (same-shape c.lane.view_is c.requires.owns.1 c.self.view_is)) seat.below)

pub follow-link-requires-clause-chain : goal.follow-link-requires-clause-chain
follow-link-requires-clause-chain g c =
    let hung : c.lane.inside.state.free.chain ≡ Some c.in_ok-first.first = sym c.chain.ensures.first ∙ c.in_ok-first.was in
    hung-begins c.lane.invariant.1 hung (c.spot-spot.ensures.place_is ∙ c.number.ensures)

pub follow-link-requires-clause-place : goal.follow-link-requires-clause-place
follow-link-requires-clause-place g c =
    let fits = c.lane.invariant.1 in
    let hung : c.lane.inside.state.free.chain ≡ Some c.in_ok-first.first = sym c.chain.ensures.first ∙ c.in_ok-first.was in
    let rests = hung-rests fits hung (sym (same-shape c.lane.view_is c.requires.owns.1 c.self.view_is)) (c.spot-spot.ensures.place_is ∙ c.number.ensures) in
    rests.with_lane ∙ ap with (sym fits.seat.number_is)

pub follow-link-requires-clause-rests : goal.follow-link-requires-clause-rests
follow-link-requires-clause-rests g c =
    let hung : c.lane.inside.state.free.chain ≡ Some c.in_ok-first.first = sym c.chain.ensures.first ∙ c.in_ok-first.was in
    (hung-rests c.lane.invariant.1 hung (sym (same-shape c.lane.view_is c.requires.owns.1 c.self.view_is)) (c.spot-spot.ensures.place_is ∙ c.number.ensures)).rests

pub follow_on-requires-clause-goes : goal.follow_on-requires-clause-goes
follow_on-requires-clause-goes g c =
    let fits = c.lane.invariant.1 in
    let hung : c.lane.inside.state.free.chain ≡ Some c.in_ok-first.first = sym c.chain.ensures.first ∙ c.in_ok-first.was in
    let at = c.spot-spot.ensures.place_is ∙ c.number.ensures in
    let follows = follows-here c.lane.view_is c.requires.owns.1 c.self.view_is c.follow-link.ensures.follows in
    follow-goes fits hung at follows

pub invariant_of-lane : goal.invariant_of-lane
invariant_of-lane g c =
    let fits = c.lane.invariant.1 in
    let hung : c.lane.inside.state.free.chain ≡ Some c.in_ok-first.first = sym c.chain.ensures.first ∙ c.in_ok-first.was in
    let at = c.spot-spot.ensures.place_is ∙ c.number.ensures in
    let follows = follows-here c.lane.view_is c.requires.owns.1 c.self.view_is c.follow-link.ensures.follows in
    (c.follow-link.ensures.follows.held ∙ c.lane.invariant.0, followed-fits fits hung at follows c.follow_on.ensures)

pub returns-clause-some : goal.returns-clause-some
returns-clause-some g c =
    let fits = c.lane.invariant.1 in
    let hung : c.lane.inside.state.free.chain ≡ Some c.in_ok-first.first = sym c.chain.ensures.first ∙ c.in_ok-first.was in
    let at = c.spot-spot.ensures.place_is ∙ c.number.ensures in
    let follows = follows-here c.lane.view_is c.requires.owns.1 c.self.view_is c.follow-link.ensures.follows in
    let new : LaneOf = lane_of c.follow-link.new.hand.table_id c.follow-link.new.hand.me.0 c.follow_on.new.state in
    subst (λ (lane : LaneOf). FollowsChain g.T.Clear.content g.T.Clear.room lane new c.spot-spot.result.place c.follow-link.result.1.object) c.lane.view_is
    (followed-chain fits hung at follows c.follow_on.ensures c.lane.inside.hand.table_id c.follow-link.new.hand.table_id c.follow-link.ensures.hand.0 c.follow-link.ensures.cell.0 c.follow-link.ensures.cell.1)

pub returns-clause-fillings : goal.returns-clause-fillings
returns-clause-fillings g c = λ filling made.
    let fits = c.lane.invariant.1 in
    let hung : c.lane.inside.state.free.chain ≡ Some c.in_ok-first.first = sym c.chain.ensures.first ∙ c.in_ok-first.was in
    let at = c.spot-spot.ensures.place_is ∙ c.number.ensures in
    let follows = follows-here c.lane.view_is c.requires.owns.1 c.self.view_is c.follow-link.ensures.follows in
    followed-fillings fits hung at follows c.follow_on.ensures c.lane.inside.hand.table_id c.follow-link.new.hand.table_id c.follow-link.ensures.hand.0 filling
    (subst (λ (lane : LaneOf). Made lane filling) (sym c.lane.view_is) made)

pub returns-clause-spot : goal.returns-clause-spot
returns-clause-spot g c = subst (λ (p : PoolOf). IsSpot p.shape c.spot-spot.result c.spot-spot.result.place) c.self.view_is
    (subst (IsSpot c.self.inside.grid.shape c.spot-spot.result) (sym c.spot-spot.ensures.place_is) c.spot-spot.ensures)

pub returns-clause-at : goal.returns-clause-at
returns-clause-at g c = subst (λ (p : PoolOf). c.follow-link.result.1.spot ≡ spots_at p.directory p.shape c.spot-spot.result.place) c.self.view_is c.follow-link.ensures.cell.2
