use Rattle.std.proofs.Common.{false}
use Rattle.poolsteps.specs.Shares.{nothing_stored}
use Rattle.poolsteps.specs.declared.steps.Purpose.TheVariants.{ToGet}
use Rattle.poolsteps.proofs.grid.Grid.hear.Given as goal

-- the look is at a grid of this shape
abbrev pub ghosts-see_told : goal.ghosts-see_told
ghosts-see_told g a = record { shape = a.self.now.shape; purpose = ToGet; key = 0; stored = nothing_stored; with_ref = false }
