use Rattle.std.proofs.Common.{false}
use Rattle.poolsteps.specs.Shares.{nothing_stored}
use Rattle.poolsteps.specs.declared.steps.Purpose.TheVariants.{ToGet}
use Rattle.poolsteps.proofs.grid.Grid.link.Given as goal

-- the link is of the grid's shape; the place to return is in the view
abbrev pub ghosts-link_as : goal.ghosts-link_as
ghosts-link_as g a = record { shape = a.self.now.shape; purpose = ToGet; key = 0; stored = nothing_stored; with_ref = false }
