use Rattle.std.proofs.Common.{◌≤◌, ◌+◌, ◌∷◌, [], ℕ, sym, ap, ◌∙◌, arith}
use Rattle.keybits.specs.declared.shape.Shape.{Shape}
use Rattle.steplaws.specs.Calls.{is_claimed}
use Rattle.seatcalls.proofs.parts.Moves.{carries-more}
use Rattle.seatcalls.proofs.parts.Standing.{at-same, returns-away, stands-in}
use Rattle.seatcalls.specs.Called.{caller_of}
use Rattle.seatcalls.proofs.parts.Doing.{did-carries, goes-none, goes-moves, goes-most}
use Rattle.seatcalls.proofs.parts.Ending.{caller-still, room-still, ends-at-last, ends-at-own, none-at-last, none-at-own}
use Rattle.shardpool.proofs.reclaim.reclaim_place.Goals as goal

pub returns-then-generation-grid-clause-tails : goal.returns-then-generation-grid-clause-tails
returns-then-generation-grid-clause-tails g c leave claim is claimed =
    let z : Shape = c.args.grid.now.shape in
    let place : ℕ = c.args.at.spot.place in
    let took = c.take_cell-whole.ensures.moves.carries in
    let rests = c.retire.ensures.moves.carries in
    let last = c.if-generation-grid.true in
    let few : 2 + 2 ≤ 33 = omega arith in
    goes-most
    (goes-none (leave ∷ claim ∷ []) (did-carries (carries-more took rests) few) (ends-at-last (caller_of z c.args.hand.now.me.0) place leave claim (is ∙ last))
    (rests.elsewhere.under ∙ (took.elsewhere.under ∙ (c.requires.under ∙ none-at-last z c.args.at.lane place c.args.generation last)))) (omega arith) (omega arith)

pub returns-then-shard_of-at-clause-tails : goal.returns-then-shard_of-at-clause-tails
returns-then-shard_of-at-clause-tails g c leave claim is claimed =
    let z : Shape = c.args.grid.now.shape in
    let place : ℕ = c.args.at.spot.place in
    let carries = c.take_cell-whole.ensures.moves.carries in
    let own = sym c.shard_of.ensures ∙ c.if-shard_of-at.true in
    let few : 2 ≤ 33 = omega arith in
    goes-most
    (goes-none (leave ∷ claim ∷ []) (did-carries carries few) (ends-at-own (caller_of z c.args.hand.now.me.0) place leave claim (own ∙ c.requires.act.at.lane))
    (carries.elsewhere.under ∙ (c.requires.under ∙ none-at-own z c.args.at.lane place c.args.generation own))) (omega arith) (omega arith)

pub returns-then-shard_of-at-clause-reclaimed : goal.returns-then-shard_of-at-clause-reclaimed
returns-then-shard_of-at-clause-reclaimed g c =
    let took = c.take_cell-whole.ensures in
    let same = room-still took.moves.carries c.shares_law.ensures.stays c.args.at.spot.place c.requires.place.0 in
    let old = ap g.T.Clear.room c.get_mut.ensures.object in (
      sym c.shard_of.ensures ∙ c.if-shard_of-at.true,
      took.moves.place,
      took.slots,
      c.empty.ensures.empty,
      omega (arith, same, c.requires.room, took.cell.1, old, c.empty.ensures.room_kept),
    )

pub take_cell-whole-requires : goal.take_cell-whole-requires
take_cell-whole-requires g c =
    let act = c.requires.act in record {
      may = record { hand = act.hand; spot = act.at.spot; below = (let low = act.at.below in omega (arith, low)); place = c.requires.place.0 };
      bare = act.bare;
      slots = c.requires.place.1;
    }

pub returns-then-generation-grid-clause-hand : goal.returns-then-generation-grid-clause-hand
returns-then-generation-grid-clause-hand g c =
    let took = c.take_cell-whole.ensures.moves.hand.0 in let rests = c.retire.ensures.moves.hand.0 in (rests.0 ∙ took.0, rests.1 ∙ took.1)

pub returns-then-generation-grid-clause-reclaimed : goal.returns-then-generation-grid-clause-reclaimed
returns-then-generation-grid-clause-reclaimed g c = c.retire.ensures.slots

pub returns-then-shard_of-at-clause-hand : goal.returns-then-shard_of-at-clause-hand
returns-then-shard_of-at-clause-hand g c = c.take_cell-whole.ensures.moves.hand.0

pub rest_cell-requires : goal.rest_cell-requires
rest_cell-requires g c =
    let act = c.requires.act in
    let took = c.take_cell-whole.ensures in
    let moves = took.moves in record {
      may = record { hand = (moves.hand.0.0 ∙ act.hand.0, moves.hand.1); spot = act.at.spot; below = (let low = act.at.below in omega (arith, low)); place = moves.place };
      slots = took.slots;
      at = took.cell.2;
    }

pub give_home-requires-clause-place : goal.give_home-requires-clause-place
give_home-requires-clause-place g c = c.rest_cell.ensures.moves.place

pub give_home-requires-clause-rests : goal.give_home-requires-clause-rests
give_home-requires-clause-rests g c =
    let law = c.shares_law.ensures.stays in
    let place : ℕ = c.args.at.spot.place in
    let took = c.take_cell-whole.ensures in
    let rests = c.rest_cell.ensures in
    let first = room-still took.moves.carries law place c.requires.place.0 in
    let last = room-still rests.moves.carries law place took.moves.place in
    let old = ap g.T.Clear.room c.get_mut.ensures.object in
    record {
      slots = rests.slots;
      empty = sym rests.cell.0 ∙ c.empty.ensures.empty;
      room = omega (arith, first, last, c.requires.room, took.cell.1, old, c.empty.ensures.room_kept, rests.cell.1);
    }

pub returns-clause-tails : goal.returns-clause-tails
returns-clause-tails g c leave claim is claimed =
    let z : Shape = c.args.grid.now.shape in
    let took = c.take_cell-whole.ensures.moves.carries in
    let rests = c.rest_cell.ensures.moves.carries in
    let few : 2 + 2 ≤ 33 = omega arith in
    let lane_is = rests.elsewhere.lane ∙ took.elsewhere.lane in
    goes-moves (leave ∷ claim ∷ []) (caller-still rests ∙ caller-still took) (did-carries (carries-more took rests) few)
    (c.give_home.ensures.gives leave claim (ap (λ n. is_claimed n claim.before) is ∙ claimed) (λ last. c.if-generation-grid.false (sym is ∙ last))
    (λ own. c.if-shard_of-at.false (c.shard_of.ensures ∙ (own ∙ (lane_is ∙ sym c.requires.act.at.lane)))))

pub give_home-requires-clause-hand : goal.give_home-requires-clause-hand
give_home-requires-clause-hand g c =
    let took = c.take_cell-whole.ensures.moves.hand in let rests = c.rest_cell.ensures.moves.hand in (rests.0.0 ∙ (took.0.0 ∙ c.requires.act.hand.0), rests.1)

pub give_home-requires-clause-at : goal.give_home-requires-clause-at
give_home-requires-clause-at g c =
    let took = c.take_cell-whole.ensures.moves.carries.elsewhere in
    let rests = c.rest_cell.ensures.moves.carries.elsewhere in at-same (rests.lane ∙ took.lane) (rests.pushed ∙ took.pushed) c.requires.act.at

pub give_home-requires-clause-returns : goal.give_home-requires-clause-returns
give_home-requires-clause-returns g c =
    let took = c.take_cell-whole.ensures.moves.carries.elsewhere in
    let rests = c.rest_cell.ensures.moves.carries.elsewhere in
    rests.under ∙ (took.under ∙ (c.requires.under
    ∙ returns-away c.args.grid.now.shape c.args.at.lane c.args.at.spot.place c.args.generation c.if-generation-grid.false (λ own. c.if-shard_of-at.false (c.shard_of.ensures ∙ own))))

pub returns-clause-hand : goal.returns-clause-hand
returns-clause-hand g c =
    let took = c.take_cell-whole.ensures.moves.hand.0 in
    let rests = c.rest_cell.ensures.moves.hand.0 in
    let last = c.give_home.ensures.hand in (last.0 ∙ (rests.0 ∙ took.0), last.1 ∙ (rests.1 ∙ took.1))

pub get_mut-requires : goal.get_mut-requires
get_mut-requires g c = stands-in c.requires.act.at.spot c.take_cell-whole.ensures.cell.2

pub retire-requires-clause-may : goal.retire-requires-clause-may
retire-requires-clause-may g c =
    let act = c.requires.act in
    let moves = c.take_cell-whole.ensures.moves in
    record { hand = (moves.hand.0.0 ∙ act.hand.0, moves.hand.1); spot = act.at.spot; below = (let low = act.at.below in omega (arith, low)); place = moves.place }

pub retire-requires-clause-slots : goal.retire-requires-clause-slots
retire-requires-clause-slots g c = c.take_cell-whole.ensures.slots

pub retire-requires-clause-whole : goal.retire-requires-clause-whole
retire-requires-clause-whole g c = c.take_cell-whole.ensures.cell.2

-- ---- what the emptier took

pub returns-then-generation-grid-clause-took : goal.returns-then-generation-grid-clause-took
returns-then-generation-grid-clause-took g c = rw c.take_cell-whole.ensures.cell.0 at c.retire.ensures.took

pub returns-then-shard_of-at-clause-took : goal.returns-then-shard_of-at-clause-took
returns-then-shard_of-at-clause-took g c = rw (c.get_mut.ensures.object, c.take_cell-whole.ensures.cell.0) at c.empty.ensures.took

pub returns-clause-took : goal.returns-clause-took
returns-clause-took g c = rw (c.get_mut.ensures.object, c.take_cell-whole.ensures.cell.0) at c.empty.ensures.took
