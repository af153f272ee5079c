use Rattle.std.proofs.Common.{false}
use Rattle.poolsteps.specs.Shares.{nothing_stored}
use Rattle.poolsteps.specs.declared.steps.Purpose.TheVariants.{ToGet}
use Rattle.poolsteps.proofs.grid.Grid.mark_from.Given as goal

-- the key that the caller marks, at this grid
abbrev pub ghosts-mark_from_as : goal.ghosts-mark_from_as
ghosts-mark_from_as g a = record { shape = a.self.now.shape; purpose = ToGet; key = a.key; stored = nothing_stored; with_ref = false }
