-- The shape is the foreign one.
use Rattle.std.proofs.Common.{subst}
use Rattle.keybits.specs.declared.shape.Shape.{Shape}
use Rattle.poolffi.specs.Exports.{Opens}
use Rattle.poolffi.proofs.pardz_open_numbered.Goals as goal

pub returns : goal.returns
returns c = subst (λ (shape : Shape). Opens shape c.args.number c.args.slots.now c.open_slots.new.slots c.open_slots.result) c.shape_of.ensures c.open_slots.ensures
