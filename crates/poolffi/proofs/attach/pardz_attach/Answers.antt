-- The shape is the foreign one.
use Rattle.std.proofs.Common.{subst}
use Rattle.keybits.specs.declared.shape.Shape.{Shape}
use Rattle.poolffi.specs.Attached.{Attaches}
use Rattle.poolffi.proofs.attach.pardz_attach.Goals as goal

pub returns : goal.returns
returns c = subst (λ (shape : Shape). Attaches shape c.args.pool.now.items c.attach_slot.new.pool.items c.attach_slot.result) c.shape_of.ensures c.attach_slot.ensures
