use Rattle.std.proofs.Common.{false}
use Rattle.poolsteps.specs.Shares.{nothing_stored}
use Rattle.poolsteps.specs.declared.steps.Purpose.TheVariants.{ToGet}
use Rattle.poolsteps.proofs.grid.Grid.meet.Given as goal

-- the look is at a grid of this shape
abbrev pub ghosts-see_no_further : goal.ghosts-see_no_further
ghosts-see_no_further g a = record { shape = a.self.now.shape; purpose = ToGet; key = 0; stored = nothing_stored; with_ref = false }
