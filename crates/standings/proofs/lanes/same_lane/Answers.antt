use Rattle.std.proofs.Common.{refl}
use Rattle.standings.proofs.Going.{going_begins, going_on}
use Rattle.standings.proofs.lanes.same_lane.Goals as goal

pub loop-turn-init : goal.loop-turn-init
loop-turn-init c = going_begins c.args.lane c.args.turns.now c.args.others.now

pub loop-turn-preserved : goal.loop-turn-preserved
loop-turn-preserved c =
    let at = c.loop-turn in
    let turn = c.in-Some.turn.now in
    let twin = c.in-Some-own_turn.twin.now in
    going_on c.args.lane c.args.turns.now c.args.others.now at.rest.now at.other.now c.in-Some.more.now c.in-Some-own_turn.left.now at.same
    c.stay_same-same.result turn twin at.invariant c.in-Some.ensures.0 c.in-Some-own_turn.ensures.0 (c.if-not-are_alike.ensures refl)
    c.stay_same-same.ensures
