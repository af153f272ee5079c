use Rattle.std.proofs.Common.{refl, ◌≤◌, ◌+◌, ◌∷◌, [], ℕ, sym, ap, ◌∙◌, arith}
use Rattle.keybits.specs.declared.shape.Shape.{Shape}
use Rattle.steplaws.specs.Calls.{is_claimed}
use Rattle.seatcalls.proofs.parts.Moves.{carries-more}
use Rattle.seatcalls.specs.Called.{caller_of}
use Rattle.seatcalls.proofs.parts.Doing.{did-carries}
use Rattle.seatcalls.proofs.parts.Ending.{caller-still, room-still, ends-at-last, ends-at-own}
use Rattle.seatcalls.proofs.parts.Standing.{at-same, returns-away, stands-in}
use Rattle.shardpool.proofs.parts.Within.{within-none, within-moves}
use Rattle.shardpool.proofs.halt.reclaim_place_within.Goals as goal
use Rattle.shardpool.proofs.halt.reclaim_place_within.Goals.{then-generation-grid-via-then-generation-grid, then-generation-grid-via-else-generation-grid+then-shard_of-at}

pub returns-then-generation-grid-clause-tails : goal.returns-then-generation-grid-clause-tails
returns-then-generation-grid-clause-tails g c leave claim is claimed =
    let caller = caller_of c.args.grid.now.shape c.args.hand.now.me.0 in
    let place : ℕ = c.args.at.spot.place in
    within-none (leave ∷ claim ∷ []) c.args.limit c.requires.act.hand.1 c.requires.seen
    (elim c.then-generation-grid.branch [
      | then-generation-grid-via-then-generation-grid w ↦ ends-at-last caller place leave claim (is ∙ w.if-generation-grid.true)
      | then-generation-grid-via-else-generation-grid+then-shard_of-at w ↦
          ends-at-own caller place leave claim (sym w.shard_of.ensures ∙ (w.if-shard_of-at.true ∙ c.requires.act.at.lane))
    ])

pub give_home_within-requires-clause-rests : goal.give_home_within-requires-clause-rests
give_home_within-requires-clause-rests g c =
    let law = c.shares_law.ensures.stays in
    let place : ℕ = c.args.at.spot.place in
    let took = c.take_cell-whole.ensures in
    let rests = c.rest_cell.ensures in
    let first = room-still took.moves.carries law place c.requires.place.0 in
    let last = room-still rests.moves.carries law place took.moves.place in
    let old = ap g.T.Clear.room c.get_mut.ensures.object in
    record {
      slots = rests.slots;
      empty = sym rests.cell.0 ∙ c.clear.ensures.empty;
      room = omega (arith, first, last, c.requires.room, took.cell.1, old, c.clear.ensures.room_kept, rests.cell.1);
    }

pub returns-clause-tails : goal.returns-clause-tails
returns-clause-tails g c leave claim is claimed =
    let z : Shape = c.args.grid.now.shape in
    let took = c.take_cell-whole.ensures.moves.carries in
    let rests = c.rest_cell.ensures.moves.carries in
    let few : 2 + 2 ≤ 4 = omega arith in
    let lane_is = rests.elsewhere.lane ∙ took.elsewhere.lane in
    within-moves (leave ∷ claim ∷ []) (caller-still rests ∙ caller-still took) (did-carries (carries-more took rests) few)
    (c.give_home_within.ensures.gives leave claim (ap (λ n. is_claimed n claim.before) is ∙ claimed) (λ last. c.if-generation-grid.false (sym is ∙ last))
    (λ own. c.if-shard_of-at.false (c.shard_of.ensures ∙ (own ∙ (lane_is ∙ sym c.requires.act.at.lane)))))

pub returns-then-generation-grid-clause-hand : goal.returns-then-generation-grid-clause-hand
returns-then-generation-grid-clause-hand g c = (refl, refl)

pub take_cell-whole-requires : goal.take_cell-whole-requires
take_cell-whole-requires g c =
    let act = c.requires.act in record {
      may = record { hand = act.hand; spot = act.at.spot; below = (let low = act.at.below in omega (arith, low)); place = c.requires.place.0 };
      bare = act.bare;
      slots = c.requires.place.1;
    }

pub rest_cell-requires : goal.rest_cell-requires
rest_cell-requires g c =
    let act = c.requires.act in
    let took = c.take_cell-whole.ensures in
    let moves = took.moves in record {
      may = record { hand = (moves.hand.0.0 ∙ act.hand.0, moves.hand.1); spot = act.at.spot; below = (let low = act.at.below in omega (arith, low)); place = moves.place };
      slots = took.slots;
      at = took.cell.2;
    }

pub give_home_within-requires-clause-hand : goal.give_home_within-requires-clause-hand
give_home_within-requires-clause-hand g c =
    let took = c.take_cell-whole.ensures.moves.hand in let rests = c.rest_cell.ensures.moves.hand in (rests.0.0 ∙ (took.0.0 ∙ c.requires.act.hand.0), rests.1)

pub give_home_within-requires-clause-at : goal.give_home_within-requires-clause-at
give_home_within-requires-clause-at g c =
    let took = c.take_cell-whole.ensures.moves.carries.elsewhere in
    let rests = c.rest_cell.ensures.moves.carries.elsewhere in at-same (rests.lane ∙ took.lane) (rests.pushed ∙ took.pushed) c.requires.act.at

pub give_home_within-requires-clause-returns : goal.give_home_within-requires-clause-returns
give_home_within-requires-clause-returns g c =
    let took = c.take_cell-whole.ensures.moves.carries.elsewhere in
    let rests = c.rest_cell.ensures.moves.carries.elsewhere in
    rests.under ∙ (took.under ∙ (c.requires.under
    ∙ returns-away c.args.grid.now.shape c.args.at.lane c.args.at.spot.place c.args.generation c.if-generation-grid.false (λ own. c.if-shard_of-at.false (c.shard_of.ensures ∙ own))))

pub give_home_within-requires-clause-place : goal.give_home_within-requires-clause-place
give_home_within-requires-clause-place g c = c.rest_cell.ensures.moves.place

pub give_home_within-requires-clause-some : goal.give_home_within-requires-clause-some
give_home_within-requires-clause-some g c = c.requires.some

pub returns-clause-hand : goal.returns-clause-hand
returns-clause-hand g c =
    let took = c.take_cell-whole.ensures.moves.hand.0 in
    let rests = c.rest_cell.ensures.moves.hand.0 in
    let last = c.give_home_within.ensures.hand in (last.0 ∙ (rests.0 ∙ took.0), last.1 ∙ (rests.1 ∙ took.1))

pub get_mut-requires : goal.get_mut-requires
get_mut-requires g c = stands-in c.requires.act.at.spot c.take_cell-whole.ensures.cell.2
