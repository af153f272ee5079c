-- How a write through `Loose::get_mut` comes back.
use Rattle.std.specs.Borrow.{Lends, Fml, RattleType, MutBor}
use Rattle.poolsteps.specs.declared.memory.Loose.{Loose}
use Rattle.poolsteps.specs.contracts.memory.Loose.{the_row}

abbrev pub with_object : {X : Type 0} → Loose X → X → Loose X
with_object l w = record { mark = l.mark; base = l.base; index = l.index; object = w }

-- once the borrow `object` ends, the memory holds the last value written through it
abbrev pub LendsObject : (T : RattleType) → MutBor (the_row T).Denot → MutBor T.Denot → Fml
LendsObject T loose object = Lends (the_row T) T loose object (with_object loose.now)
