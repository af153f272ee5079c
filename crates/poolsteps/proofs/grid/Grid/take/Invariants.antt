use Rattle.std.proofs.Common.{false}
use Rattle.poolsteps.specs.Shares.{nothing_stored}
use Rattle.poolsteps.specs.declared.steps.Purpose.TheVariants.{ToGet}
use Rattle.poolsteps.proofs.grid.Grid.take.Given as goal

-- the lane whose stack the caller takes, at this grid
abbrev pub ghosts-take_as : goal.ghosts-take_as
ghosts-take_as g a = record { shape = a.self.now.shape; purpose = ToGet; key = a.from; stored = nothing_stored; with_ref = false }
