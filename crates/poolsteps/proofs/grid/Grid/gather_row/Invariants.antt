use Rattle.std.proofs.Common.{false}
use Rattle.poolsteps.specs.Shares.{nothing_stored}
use Rattle.poolsteps.specs.declared.steps.Purpose.TheVariants.{ToGet}
use Rattle.poolsteps.proofs.grid.Grid.gather_row.Given as goal

-- the step is of the grid's shape
abbrev pub ghosts-gather_row_as : goal.ghosts-gather_row_as
ghosts-gather_row_as g a = record { shape = a.self.now.shape; purpose = ToGet; key = a.row; stored = nothing_stored; with_ref = false }
