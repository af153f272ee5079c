use Rattle.std.proofs.Common.{◌<◌, ℕ, refl, sym, subst, arith}
use Rattle.poolsteps.specs.Layout.{slot_count}
use Rattle.poolsteps.proofs.SlotLemmas.{slot-below}
use Rattle.poolsteps.proofs.SlotLemmas.{rows-small}
use Rattle.poolsteps.proofs.layout.slot_at.Goals as goal

pub returns-clause-slot : goal.returns-clause-slot
returns-clause-slot c = rw (c.slot_row.ensures, c.slot_start.ensures.start) refl

pub returns-clause-inside : goal.returns-clause-inside
returns-clause-inside c = let z = c.args.shape.now in
    subst (λ (slot : ℕ). slot < slot_count z) (sym (returns-clause-slot c)) (slot-below z c.args.place c.args.lane c.requires.place c.requires.lane)

pub overflow_mul-result : goal.overflow_mul-result
overflow_mul-result c =
    let low = c.requires.lane in
    let rows = rows-small c.args.shape.now c.args.lane c.slot_row.result c.requires.shape (omega (arith, low)) c.slot_row.ensures in omega (arith, rows)

pub overflow_add-result : goal.overflow_add-result
overflow_add-result c =
    let low = c.requires.lane in
    let rows = rows-small c.args.shape.now c.args.lane c.slot_row.result c.requires.shape (omega (arith, low)) c.slot_row.ensures in
    omega (arith, rows, c.slot_start.ensures.small)
