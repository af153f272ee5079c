use Rattle.std.proofs.Common.{false}
use Rattle.poolsteps.specs.Shares.{nothing_stored}
use Rattle.poolsteps.proofs.grid.Grid.enter.Given as goal

-- what the caller asks for, at this table
abbrev pub ghosts-enter_as : goal.ghosts-enter_as
ghosts-enter_as g a = record { shape = a.self.now.shape; purpose = a.purpose; key = a.key; stored = nothing_stored; with_ref = false }
