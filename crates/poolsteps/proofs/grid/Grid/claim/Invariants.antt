use Rattle.std.proofs.Common.{false}
use Rattle.poolsteps.specs.Shares.{nothing_stored}
use Rattle.poolsteps.specs.declared.steps.Purpose.TheVariants.{ToGet}
use Rattle.poolsteps.proofs.grid.Grid.claim.Given as goal

-- the claim is of the grid's shape; its place and generation are in the view
abbrev pub ghosts-claim_as : goal.ghosts-claim_as
ghosts-claim_as g a = record { shape = a.self.now.shape; purpose = ToGet; key = 0; stored = nothing_stored; with_ref = false }
