-- The filling with its bytes is the lane's still; where the place had no room for them, it was given up as it was.
use Rattle.std.proofs.Common.{◌≡◌, ◌+◌, ◌<◌, ◌≤◌, length, refl, ap, ◌∙◌, subst, inr, arith}
use Rattle.slotcell.specs.ByteBuf.{ByteBuf}
use Rattle.shardpool.specs.Tokens.{LaneOf, FillingOf}
use Rattle.shardpool.specs.Lanes.{Made}
use Rattle.lanestore.specs.Visits.{lane_of}
use Rattle.poolffi.specs.ByteCalls.{GivesUp}
use Rattle.poolffi.proofs.visits.put.Goals as goal

-- a filling of the lane is one with any object
made-with : (lane : LaneOf) (filling : FillingOf ByteBuf) (object : ByteBuf) → Made lane filling → Made lane (record filling { object = object })
made-with lane filling object made = record { table = made.table; directory = made.directory; start = made.start; place = made.place; may = made.may; emptied = made.emptied }

pub finish-requires-clause-made : goal.finish-requires-clause-made
finish-requires-clause-made c = made-with (lane_of c.begin.new.self) c.in-Ok.filling c.append.new.self c.in-Ok.ensures.creates.gives.made

pub finish-requires-clause-apart : goal.finish-requires-clause-apart
finish-requires-clause-apart c = rw c.begin.ensures.kept c.in-Ok.ensures.apart

pub give_up-requires-clause-made : goal.give_up-requires-clause-made
give_up-requires-clause-made c = made-with (lane_of c.begin.new.self) c.in-Ok.filling c.append.new.self c.in-Ok.ensures.creates.gives.made

pub give_up-requires-clause-apart : goal.give_up-requires-clause-apart
give_up-requires-clause-apart c = rw c.begin.ensures.kept c.in-Ok.ensures.apart

pub returns-in-Err-clause-puts : goal.returns-in-Err-clause-puts
returns-in-Err-clause-puts c =
    let filling = c.in-Ok.filling in let shown = c.value_mut.result.now in let bytes = c.args.bytes.now in
    let middle = lane_of c.begin.new.self in
    let object = c.value_mut.ensures.object in
    let empty : length shown.bytes ≡ 0 = ap (λ (b : ByteBuf). length b.bytes) object ∙ ap length c.in-Ok.ensures.creates.gives.empty in
    let room : shown.room ≡ filling.object.room = ap (λ (b : ByteBuf). b.room) object in
    let none : length shown.bytes + length bytes ≤ shown.room → ⊥ = λ fits. let is = c.in-Err.ensures.within_room fits in absurd (cc is) in
    let short : filling.object.room < length bytes = omega (arith, none, empty, room) in
    let given = subst (λ (b : ByteBuf). GivesUp c.args.pool.now (record filling { object = b }) middle (lane_of c.give_up.new.visit)) (c.in-Err.ensures.err ∙ object)
    c.give_up.ensures.gives_up in
    inr (inr (refl, (middle, filling, c.in-Ok.ensures.creates, short, given)))
