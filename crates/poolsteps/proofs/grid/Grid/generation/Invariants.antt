use Rattle.std.proofs.Common.{false}
use Rattle.poolsteps.specs.Shares.{nothing_stored}
use Rattle.poolsteps.specs.declared.steps.Purpose.TheVariants.{ToGet}
use Rattle.poolsteps.proofs.grid.Grid.generation.Given as goal

-- the look is at a grid of this shape
abbrev pub ghosts-see_life : goal.ghosts-see_life
ghosts-see_life g a = record { shape = a.self.now.shape; purpose = ToGet; key = a.spot.place; stored = nothing_stored; with_ref = false }
