-- How a write to the object of a claimed place comes back.
use Rattle.std.specs.Borrow.{Lends, Fml, RattleType, MutBor}
use Rattle.seatcalls.specs.Visitors.{ClaimedOf}
use Rattle.seatcalls.specs.contracts.claimed.Claimed.{the_row}

-- once the borrow `object` ends, the claimed place has the last object written through it
abbrev pub LendsClaimed : (T : RattleType) → ClaimedOf T.Denot → MutBor (the_row T).Denot → MutBor T.Denot → Fml
LendsClaimed T old claimed object = Lends (the_row T) T claimed object (λ x. record old { object = x })
