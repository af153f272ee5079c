use Rattle.std.proofs.Common.{◌≡◌, ◌++◌, take}
use Rattle.std.specs.Vec.{vec_capacity}
use Rattle.slotcell.proofs.objects.with_appended.Given as goal

abbrev pub invariant-loop-byte : goal.invariant-loop-byte
invariant-loop-byte l = (l.all.items ≡ l.initial.all.items ++ take l.byte-index l.more) × (vec_capacity l.all ≡ vec_capacity l.initial.all)
