use Rattle.poolsteps.specs.Layout.{spots_at}
use Rattle.keybits.specs.Shapes.{callers}
-- The one share of the cell is all of it.
use Rattle.std.proofs.Common.{arith, ◌≡◌, ◌∙◌, ◌<◌, ap, sym, subst}
use Rattle.core.specs.Mem.Slots.{slots_items}
use Rattle.std.specs.Prelude.{None}
use Rattle.keybits.specs.Places.{shard_of}
use Rattle.keybits.proofs.ShapeLemmas.{is_place-parts}
use Rattle.poolsteps.specs.Layout.{slot_index}
use Rattle.poolsteps.specs.Joins.{IsSet}
use Rattle.poolsteps.proofs.Joining.{part-some, drains-one, empty-one}
use Rattle.poolsteps.proofs.closing.out_resting.Goals as goal
use Rattle.poolsteps.proofs.closing.out_resting.Goals.{After-slot_at-slot}

-- the index is that of the place's slot of its shard
at : (g : _) (c : After-slot_at-slot g) → c.slot_at-slot.result ≡ slot_index c.args.shape.now c.args.place (shard_of c.args.place)
at g c = c.slot_at-slot.ensures.slot ∙ ap (slot_index c.args.shape.now c.args.place) c.shard_of.ensures

pub slot_at-slot-requires-clause-lane : goal.slot_at-slot-requires-clause-lane
slot_at-slot-requires-clause-lane g c = let low = (is_place-parts c.args.shape.now c.args.place c.requires.place).0 in subst (λ n. n < callers c.args.shape.now) (sym c.shard_of.ensures) (omega (arith, low))

pub lift-requires-clause-share : goal.lift-requires-clause-share
lift-requires-clause-share g c =
    let z = c.args.shape.now in
    let r = c.requires.resting in
    part-some (slots_items c.args.slots.now) (slot_index z c.args.place (shard_of c.args.place)) c.slot_at-slot.result (spots_at c.args.directory.ptr c.args.shape.now c.args.place) r.cell 0 1
    (at g (goal.at.lift-requires-clause-share g c).After-slot_at-slot) r.part

pub returns-clause-drains : goal.returns-clause-drains
returns-clause-drains g c =
    let z = c.args.shape.now in
    let place = c.args.place in
    drains-one (spots_at c.args.directory.ptr c.args.shape.now) z c.requires.shape place c.requires.place c.args.slots.now c.lift.new.slots (shard_of place) c.requires.row (let low = (is_place-parts z place c.requires.place).0 in omega (arith, low))
    (subst (λ i. IsSet i None c.args.slots.now c.lift.new.slots) (at g (goal.at.returns-clause-drains g c).After-slot_at-slot) c.lift.ensures.slots)

pub returns-clause-gone : goal.returns-clause-gone
returns-clause-gone g c =
    let z = c.args.shape.now in
    let place = c.args.place in
    empty-one (spots_at c.args.directory.ptr c.args.shape.now) z c.requires.shape place c.requires.place c.args.slots.now c.lift.new.slots (shard_of place) c.requires.row (let low = (is_place-parts z place c.requires.place).0 in omega (arith, low))
    (subst (λ i. IsSet i None c.args.slots.now c.lift.new.slots) (at g (goal.at.returns-clause-gone g c).After-slot_at-slot) c.lift.ensures.slots)
