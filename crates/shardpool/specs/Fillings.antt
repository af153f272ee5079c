-- How a write to a filling's object comes back.
use Rattle.std.specs.Borrow.{Lends, Fml, RattleType, MutBor}
use Rattle.shardpool.specs.Tokens.{FillingOf}
use Rattle.shardpool.specs.contracts.create.Filling.{the_row}

-- once the borrow `object` ends, the filling has the last object written through it
abbrev pub LendsFilling : (T : RattleType) → FillingOf T.Denot → MutBor (the_row T).Denot → MutBor T.Denot → Fml
LendsFilling T old filling object = Lends (the_row T) T filling object (λ x. record old { object = x })
