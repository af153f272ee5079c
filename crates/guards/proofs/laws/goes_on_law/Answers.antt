use Rattle.guards.proofs.Seating.{goes-further}
use Rattle.guards.proofs.laws.goes_on_law.Goals as goal

pub returns : goal.returns
returns c = λ first second third goes further. goes-further {between = second} goes further
