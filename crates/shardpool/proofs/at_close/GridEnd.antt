-- What the end of a pool's table tells of its lanes.
use Rattle.std.proofs.Common.{◌≡◌, ℕ, ◌<◌, List, [], ◌++◌, length, Option, Some, refl, sym, ap, ◌∙◌, subst, arith, slice_get}
use Rattle.std.specs.List.{All}
use Rattle.std.proofs.Math.ListN.{get_or}
use Rattle.std.proofs.lemmas.Option.{slice_get_within, slice_get-get_or}
use lib.ListN.{get_elem?}
use Rattle.atomic_table.specs.declared.shared.Seat.{Seat}
use Rattle.core.specs.declared.slots.Slots.{Slots}
use Rattle.core.specs.Mem.Slots.{slots_items}
use Rattle.seqpool.specs.declared.act.Act.{Act}
use Rattle.steplaws.specs.Facts.{Words}
use Rattle.keybits.specs.declared.shape.Shape.{Shape}
use Rattle.poolsteps.specs.Share.{Share}
use Rattle.poolsteps.specs.declared.grid.Grid.{Grid}
use Rattle.poolsteps.specs.declared.view.View.{View}
use Rattle.poolsteps.specs.Layout.{words_in, shard_start, spots_at}
use Rattle.keybits.specs.Shapes.{shard_places}
use Rattle.poolsteps.specs.Rule.{World}
use Rattle.poolsteps.specs.Grids.{IsOf, EndsWith}
use Rattle.poolsteps.specs.Views.{the_lane}
use Rattle.shardpool.specs.declared.pool.LaneState.{LaneState}
use Rattle.shardpool.specs.Tokens.{LaneOf}
use Rattle.shardpool.specs.LaneStates.{Fits}
use Rattle.shardpool.specs.Closings.{AreAllLanes, IsLast, IsLastHistory, AreLast}
use Rattle.shardpool.specs.Stores.{AreOfShard}
use Rattle.shardpool.specs.Remains.{MayHandBack, IsStripped, AreStripped, HandsBack, HasCells}
use Rattle.shardpool.specs.Partings.{AreParted}
use Rattle.shardpool.proofs.frame.LaneFacts.{lane_of}
use Rattle.shardpool.proofs.at_close.RemainingShares.{may-hand-back, has-cells}
use Rattle.shardpool.proofs.at_close.GoneGuests.{AreGone}
use Rattle.shardpool.proofs.at_close.GuestHands.{in-front, own-lane}
use Rattle.shardpool.proofs.at_close.LastHistory.{IsEnded, entry-at, last-are, last-history}

-- a lane's state tells the same without its rows
still-last : {T : Type 0} {z : Shape} {history : List Act} {words : Words} {lane : LaneOf} {state one : LaneState T} → IsStripped state one → IsLast z history words lane state
    → IsLast z history words lane one
still-last {T} {z} {history} {words} {lane} stripped is = subst (λ (x : LaneState T). IsLast z history words lane x) (sym stripped) (record {
  shape_is = is.shape_is;
  number_is = is.number_is;
  below = is.below;
  free_is = is.free_is;
  pages_is = is.pages_is;
  listed = is.listed;
  chained = is.chained;
  unopened = is.unopened;
  first = is.first;
  leads = is.leads;
})

module _ {T : Type 0} {content : T → List ℕ} {room : T → ℕ} (grid : Grid T) {lanes : List LaneOf} {hands : List (Seat (Option (Share T)) View)} {states : List (LaneState T)}
    (are : AreAllLanes (record { table = grid.table.shared.table_id; directory = grid.objects.ptr; shape = grid.shape }) lanes) (parted : AreParted content room lanes hands states) where
  -- there is a lane
  pub some-hand : 0 < length hands
  some-hand =
      let some = grid.checked.lanes.0 in let all = are.count in let same = parted.count.0 in
      omega (arith, some, all, same)

  -- the lanes' hands are the grid's
  pub is-hand : (index : ℕ) (hand : Seat (Option (Share T)) View) → slice_get hands index ≡ Some hand → IsOf grid hand × (hand.me.1 ≡ [])
  is-hand index hand at =
      let low = slice_get_within hands index hand at in
      let same = parted.count.0 in let wide = parted.count.1 in
      let lane = entry-at lanes index (omega (arith, low, same)) in
      let state = entry-at states index (omega (arith, low, same, wide)) in
      let is = parted.each index lane.0 hand state.0 lane.1 at state.1 in (
        sym (ap (λ (l : LaneOf). l.table) is.lane_is) ∙ (are.owned index lane.0 lane.1).0,
        is.empty,
      )

  -- what a lane has of objects is of the grid's directory, and of the places of its shard
  its-objects : (index : ℕ) (s : LaneState T) → slice_get states index ≡ Some s → (s.objects.directory ≡ grid.objects.ptr) × AreOfShard grid.shape s.number s.objects
  its-objects index s at =
      let low = slice_get_within states index s at in
      let same = parted.count.0 in let wide = parted.count.1 in
      let lane = entry-at lanes index (omega (arith, low, wide)) in
      let hand = entry-at hands index (omega (arith, low, same, wide)) in
      let is = parted.each index lane.0 hand.0 s lane.1 hand.1 at in
      let owned = are.owned index lane.0 lane.1 in
      let shape = sym (ap (λ (l : LaneOf). l.shape) is.lane_is) ∙ owned.1 in (
        sym (ap (λ (l : LaneOf). l.directory) is.lane_is) ∙ owned.2,
        (is.fits.rights.first_is ∙ ap (λ (y : Shape). shard_start y s.number) shape, is.fits.stores.narrow ∙ ap shard_places shape),
      )

  -- so are those of the states without their rows
  pub are-objects : (left : List (LaneState T)) → AreStripped states left → All (λ s. (s.objects.directory ≡ grid.objects.ptr) × AreOfShard grid.shape s.number s.objects) left
  are-objects left stripped k d low =
      let one : LaneState T = get_or left k d in
      let state = stripped.1 k one (slice_get-get_or left k d low) in
      let is = its-objects k state.0 state.1 in (
        (λ i. (state.2 i).objects.directory) ∙ is.0,
        ((λ i. (state.2 i).objects.first) ∙ (is.1.0 ∙ ap (shard_start grid.shape) (λ i. (sym state.2 i).number)), (λ i. length (state.2 i).objects.items) ∙ is.1.1),
      )

  -- and there are as many as lanes
  pub as-many : (left : List (LaneState T)) → AreStripped states left → length left ≡ grid.shape.lanes
  as-many left stripped = stripped.0 ∙ (parted.count.1 ∙ are.count)

  -- beside the hands of guests, which are gone
  module _ {words : List ℕ} {slots : List (Option (Share T))} {w : World} (others : List (Seat (Option (Share T)) View))
      (ends : EndsWith content room grid (hands ++ others) words slots w) (gone : AreGone grid.shape w) where
    -- what a lane keeps stands beside the last world
    all-ended : (index : ℕ) (lane : LaneOf) (s : LaneState T) → slice_get lanes index ≡ Some lane → slice_get states index ≡ Some s → IsEnded content room grid.shape w lane s
    all-ended index lane s at_lane at_shelf =
        let low = slice_get_within lanes index lane at_lane in
        let same = parted.count.0 in
        let there = entry-at hands index (omega (arith, low, same)) in
        let hand : Seat (Option (Share T)) View = there.0 in
        let is = parted.each index lane hand s at_lane there.1 at_shelf in
        let shape : s.shape ≡ grid.shape = sym (ap (λ (l : LaneOf). l.shape) is.lane_is) ∙ (are.owned index lane at_lane).1 in
        let ended : IsEnded content room grid.shape w (lane_of hand.table_id hand.me.0 s) s = record {
          lane_is = refl;
          fits = subst (λ (y : Shape). Fits content room y hand.me.0 s) shape is.fits;
          free = is.free;
          seen = ends.seen index hand (in-front hands others index hand there.1);
          record_is = ends.records index hand (the_lane hand.me.0) (in-front hands others index hand there.1) (own-lane hand is.fits.seat.one);
        } in
        subst (λ (x : LaneOf). IsEnded content room grid.shape w x s) (sym is.lane_is) ended

    -- so all that they keep, the last words and the history tell of each other, also when the rows are gone
    pub ends-last : {left : List (LaneState T)} → AreStripped states left → AreLast grid.shape w.history lanes left (words_in grid.shape words)
    ends-last {left} stripped =
        let last = last-are ends.stands.rule grid.table.shared.table_id grid.objects.ptr lanes states are parted.count.1 all-ended gone in record {
          legal = last.legal;
          state = last.state;
          homes = last.homes;
          alone = last.alone;
          bits = last.bits;
          count = (last.count.0, stripped.0 ∙ last.count.1);
          all = last.all;
          each = λ index lane one at_lane at_one.
              let state = stripped.1 index one at_one in
              still-last state.2 (last.each index lane state.0 at_lane state.1);
        }

    -- the shares of the rows may go back
    pub ends-may : MayHandBack grid.shape states
    ends-may = may-hand-back ends.stands.rule grid.table.shared.table_id grid.objects.ptr lanes states are parted.count.1 all-ended gone

    -- and then the slots have all cells
    pub ends-cells : {old new : Slots (Option (Share T))} → slots_items old ≡ slots → HandsBack grid.shape states old new → HasCells (spots_at grid.objects.ptr grid.shape) grid.shape w.history lanes (slots_items new)
    ends-cells {old} is back =
        has-cells ends.stands.rule grid.table.shared.table_id grid.objects.ptr lanes states are parted.count.1 all-ended gone grid.checked ends.homes ends.stands.shared
        (λ index value at. ap (λ (xs : List (Option (Share T))). get_elem? xs index) is ∙ ends.at_home index value at) back

    -- and the history is the last
    pub ends-history : IsLastHistory (record { table = grid.table.shared.table_id; directory = grid.objects.ptr; shape = grid.shape }) lanes w.history
    ends-history = last-history ends.stands.rule grid.table.shared.table_id grid.objects.ptr lanes states are parted.count.1 all-ended gone ends.stands.owners
