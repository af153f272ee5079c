-- How a write through `Whole::get_mut` comes back.
use Rattle.std.specs.Borrow.{Lends, Fml, RattleType, MutBor}
use Rattle.poolsteps.specs.Whole.{Whole}
use Rattle.poolsteps.specs.contracts.cells.Whole.{the_row}

-- once the borrow `object` ends, the whole holds the last value written through it
abbrev pub LendsObject : (T : RattleType) → MutBor (Whole T.Denot) → MutBor T.Denot → Fml
LendsObject T whole object = Lends (the_row T) T whole object (λ x. record { spot = whole.now.spot; object = x })
