use Rattle.std.proofs.Common.{false}
use Rattle.poolsteps.specs.Shares.{nothing_stored}
use Rattle.poolsteps.specs.declared.steps.Purpose.TheVariants.{ToGet}
use Rattle.poolsteps.proofs.grid.Grid.sweep.Given as goal

-- the key that the caller clears, at this grid
abbrev pub ghosts-sweep_as : goal.ghosts-sweep_as
ghosts-sweep_as g a = record { shape = a.self.now.shape; purpose = ToGet; key = a.key; stored = nothing_stored; with_ref = false }
