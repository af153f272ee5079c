-- The end of the table tells of all lanes and guests, and the census counts by it.
use Rattle.std.specs.Vec.{vec_capacity}
use Rattle.keybits.specs.declared.shape.TheConstants.{MOST_LANES, MOST_GUESTS}
use Rattle.keybits.specs.Shapes.{callers}
use Rattle.poolsteps.specs.declared.grid.Grid.{Grid}
use Rattle.seatcalls.specs.Visitors.{GuestOf}
use Rattle.std.proofs.Common.{◌≡◌, ℕ, ◌+◌, ◌-◌, ◌≤◌, List, [], ◌++◌, length, refl, sym, ap, ◌∙◌, subst, arith, append_assoc, length-append}
use Rattle.std.specs.Prelude.{Option}
use Rattle.atomic_table.specs.declared.shared.Seat.{Seat}
use Rattle.poolsteps.specs.Share.{Share}
use Rattle.poolsteps.specs.declared.view.View.{View}
use Rattle.poolsteps.specs.Grids.{IsOf, AreHands, EndsWith}
use Rattle.poolsteps.specs.Rule.{World}
use Rattle.shardpool.specs.Tokens.{PoolOf, GuestsOf}
use Rattle.shardpool.specs.Closings.{AreAllLanes, AreGuests}
use Rattle.shardpool.proofs.at_close.GoneGuests.{AreGone}
use Rattle.shardpool.proofs.at_close.GridEnd.{some-hand, is-hand, are-objects, as-many, ends-may, ends-last, ends-history, ends-cells}
use Rattle.shardpool.proofs.at_close.GuestHands.{either-part, guest-hand, dealt-begins, dealt-own, rest-unmade, all-gone}
use Rattle.shardpool.proofs.closing.close_with_guests.Given.{Over}
use Rattle.shardpool.proofs.closing.close_with_guests.Goals as goal
use Rattle.shardpool.proofs.closing.close_with_guests.Goals.{After-with_undealt-hands}

-- the lanes and the guests of the table
lanes-are : (g : Over) (c : After-with_undealt-hands g) → AreAllLanes (record { table = c.pool.inside.grid.table.shared.table_id; directory = c.pool.inside.grid.objects.ptr; shape = c.pool.inside.grid.shape }) c.args.lanes.items
lanes-are g c = subst (λ (pool : PoolOf). AreAllLanes pool c.args.lanes.items) (sym c.pool.view_is) c.requires.lanes

guests-are : (g : Over) (c : After-with_undealt-hands g)
    → AreGuests (record { table = c.pool.inside.grid.table.shared.table_id; directory = c.pool.inside.grid.objects.ptr; shape = c.pool.inside.grid.shape }) c.args.undealt c.args.dealt.items
guests-are g c = subst (λ (pool : PoolOf). AreGuests pool c.args.undealt c.args.dealt.items) (sym c.pool.view_is) c.requires.guests

-- the hands of the guests
abbrev front : (g : Over) (c : After-with_undealt-hands g) → List (Seat (Option (Share g.row.T.Denot)) View)
front g c = c.with_dealt.ensures.hands.0

abbrev rest : (g : Over) (c : After-with_undealt-hands g) → List (Seat (Option (Share g.row.T.Denot)) View)
rest g c = c.with_undealt-hands.ensures.0

all-hands : (g : Over) (c : After-with_undealt-hands g) → c.with_undealt-hands.result.items ≡ c.take_apart-hands.result.0.items ++ (front g c ++ rest g c)
all-hands g c = c.with_undealt-hands.ensures.1 ∙ (ap (λ (l : List (Seat (Option (Share g.row.T.Denot)) View)). l ++ rest g c) c.with_dealt.ensures.hands.1
    ∙ append_assoc c.take_apart-hands.result.0.items (front g c) (rest g c))

-- the end, by the hands of the lanes and of the guests
module _ (g : Over) (c : After-with_undealt-hands g) {words : List ℕ} {slots : List (Option (Share g.row.T.Denot))} {w : World}
    (end : EndsWith g.T.Clear.content g.T.Clear.room c.pool.inside.grid c.with_undealt-hands.result.items words slots w) where
  ends-are : EndsWith g.T.Clear.content g.T.Clear.room c.pool.inside.grid (c.take_apart-hands.result.0.items ++ (front g c ++ rest g c)) words slots w
  ends-are = subst (λ (hands : List (Seat (Option (Share g.row.T.Denot)) View)). EndsWith g.T.Clear.content g.T.Clear.room c.pool.inside.grid hands words slots w) (all-hands g c) end

  gone : AreGone c.pool.inside.grid.shape w
  gone = all-gone c.pool.inside.grid (guests-are g c) c.with_dealt.ensures.hands.2 c.with_undealt-hands.ensures.2 c.take_apart-hands.result.0.items ends-are

pub end-closed-requires : goal.end-closed-requires
end-closed-requires g c =
    let at = (goal.at.end-closed-requires g c).After-with_undealt-hands in
    let grid = c.pool.inside.grid in
    let hands = c.take_apart-hands.result.0.items in
    let are : AreHands grid (hands ++ (front g at ++ rest g at)) = record {
      some_hand =
          let some = some-hand grid (lanes-are g at) c.take_apart-hands.ensures.parted in
          let long = length-append hands (front g at ++ rest g at) in
          omega (arith, some, long);
      each = either-part (λ (hand : Seat (Option (Share g.row.T.Denot)) View). IsOf grid hand × (hand.me.1 ≡ [])) hands (front g at ++ rest g at)
          (is-hand grid (lanes-are g at) c.take_apart-hands.ensures.parted)
          (guest-hand grid (guests-are g at) c.with_dealt.ensures.hands.2 c.with_undealt-hands.ensures.2);
    } in
    subst (λ (l : List (Seat (Option (Share g.row.T.Denot)) View)). AreHands grid l) (sym (all-hands g at)) are

-- there is room for the hands of all callers
few : {T : Type 0} (grid : Grid T) (undealt : GuestsOf) (dealt : List GuestOf) (lanes hands left capacity : ℕ)
    → AreGuests (record { table = grid.table.shared.table_id; directory = grid.objects.ptr; shape = grid.shape }) undealt dealt
    → lanes ≡ grid.shape.lanes → hands ≡ lanes → undealt.next + left ≡ callers undealt.shape → MOST_LANES + MOST_GUESTS ≤ capacity
    → (hands + length dealt ≤ capacity) × (hands + length dealt + (callers undealt.shape - undealt.next) ≤ capacity)
few grid undealt dealt lanes hands left capacity are lanes_are hands_are left_are room =
    let shape = ap callers are.rest.1 in
    let most = grid.checked.lanes.1 in
    let least = grid.checked.guests in
    let count = are.count in (
      omega (arith, shape, most, least, count, lanes_are, hands_are, left_are, room),
      omega (arith, shape, most, least, count, lanes_are, hands_are, left_are, room),
    )

pub with_dealt-requires : goal.with_dealt-requires
with_dealt-requires g c =
    let grid = c.pool.inside.grid in
    let guests = subst (λ (pool : PoolOf). AreGuests pool c.args.undealt c.args.dealt.items) (sym c.pool.view_is) c.requires.guests in
    let lanes = subst (λ (pool : PoolOf). AreAllLanes pool c.args.lanes.items) (sym c.pool.view_is) c.requires.lanes in
    (few grid c.args.undealt c.args.dealt.items (length c.args.lanes.items) (length c.take_apart-hands.result.0.items) c.left.result (vec_capacity c.take_apart-hands.result.0)
    guests lanes.count c.take_apart-hands.ensures.parted.count.0 c.left.ensures c.take_apart-hands.ensures.room).0

pub with_undealt-hands-requires : goal.with_undealt-hands-requires
with_undealt-hands-requires g c =
    let grid = c.pool.inside.grid in
    let guests = subst (λ (pool : PoolOf). AreGuests pool c.args.undealt c.args.dealt.items) (sym c.pool.view_is) c.requires.guests in
    let lanes = subst (λ (pool : PoolOf). AreAllLanes pool c.args.lanes.items) (sym c.pool.view_is) c.requires.lanes in
    let all = (few grid c.args.undealt c.args.dealt.items (length c.args.lanes.items) (length c.take_apart-hands.result.0.items) c.left.result (vec_capacity c.take_apart-hands.result.0)
    guests lanes.count c.take_apart-hands.ensures.parted.count.0 c.left.ensures c.take_apart-hands.ensures.room).1 in
    let more = c.with_dealt.ensures.hands.0 in
    let long = ap length c.with_dealt.ensures.hands.1 ∙ length-append c.take_apart-hands.result.0.items more in
    let same = c.with_dealt.ensures.hands.2.count in
    let kept = c.with_dealt.ensures.room in
    omega (arith, all, long, same, kept)

pub hand_back-requires-clause-states : goal.hand_back-requires-clause-states
hand_back-requires-clause-states g c =
    let at = (goal.at.hand_back-requires-clause-states g c).After-with_undealt-hands in
    let end = c.end-closed.ensures.world.1 in
    ends-may c.pool.inside.grid (lanes-are g at) c.take_apart-hands.ensures.parted (front g at ++ rest g at) (ends-are g at end) (gone g at end)

pub take_census-census-requires-clause-last : goal.take_census-census-requires-clause-last
take_census-census-requires-clause-last g c =
    let at = (goal.at.take_census-census-requires-clause-last g c).After-with_undealt-hands in
    let end = c.end-closed.ensures.world.1 in
    let w : World = c.end-closed.ensures.world.0 in
    let grid = c.pool.inside.grid in (
      w.history,
      c.args.lanes.items,
      ends-last grid (lanes-are g at) c.take_apart-hands.ensures.parted (front g at ++ rest g at) (ends-are g at end) (gone g at end) c.hand_back.ensures.states,
      ends-cells grid (lanes-are g at) c.take_apart-hands.ensures.parted (front g at ++ rest g at) (ends-are g at end) (gone g at end) refl c.hand_back.ensures.slots,
    )

pub take_census-census-requires-clause-objects : goal.take_census-census-requires-clause-objects
take_census-census-requires-clause-objects g c =
    let at = (goal.at.take_census-census-requires-clause-objects g c).After-with_undealt-hands in
    are-objects c.pool.inside.grid (lanes-are g at) c.take_apart-hands.ensures.parted c.hand_back.new.states.items c.hand_back.ensures.states

pub take_census-census-requires-clause-rights : goal.take_census-census-requires-clause-rights
take_census-census-requires-clause-rights g c =
    let at = (goal.at.take_census-census-requires-clause-rights g c).After-with_undealt-hands in
    let count = as-many c.pool.inside.grid (lanes-are g at) c.take_apart-hands.ensures.parted c.hand_back.new.states.items c.hand_back.ensures.states in
    let room = c.pool.invariant.3 in
    (c.pool.invariant.2, omega (arith, count, room))

pub returns-clause-closes : goal.returns-clause-closes
returns-clause-closes g c =
    let at = (goal.at.returns-clause-closes g c).After-with_undealt-hands in
    let end = c.end-closed.ensures.world.1 in
    let w : World = c.end-closed.ensures.world.0 in
    let grid = c.pool.inside.grid in
    let hands = c.take_apart-hands.result.0.items in
    let ends = ends-are g at end in
    rw (← c.pool.view_is) (record {
      closes = record {
        history = w.history;
        last = ends-history grid (lanes-are g at) c.take_apart-hands.ensures.parted (front g at ++ rest g at) ends (gone g at end);
        census_is = c.take_census-census.ensures.census w.history c.args.lanes.items
            (ends-last grid (lanes-are g at) c.take_apart-hands.ensures.parted (front g at ++ rest g at) ends (gone g at end) c.hand_back.ensures.states);
      };
      begins = dealt-begins grid (guests-are g at) c.with_dealt.ensures.hands.2 c.with_undealt-hands.ensures.2 hands ends;
      own = dealt-own grid (guests-are g at) c.with_dealt.ensures.hands.2 c.with_undealt-hands.ensures.2 hands ends;
      unmade = rest-unmade grid (guests-are g at) c.with_dealt.ensures.hands.2 c.with_undealt-hands.ensures.2 hands ends;
    })

pub close_directory-requires-clause-lanes : goal.close_directory-requires-clause-lanes
close_directory-requires-clause-lanes g c = λ k d low. c.take_census-census.ensures.rights k d low ∙ sym c.pool.invariant.4
