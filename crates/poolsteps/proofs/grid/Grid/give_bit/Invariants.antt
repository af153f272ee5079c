use Rattle.std.proofs.Common.{false}
use Rattle.poolsteps.specs.Shares.{nothing_stored}
use Rattle.poolsteps.specs.declared.steps.Purpose.TheVariants.{ToGet}
use Rattle.poolsteps.proofs.grid.Grid.give_bit.Given as goal

-- the step is of the grid's shape
abbrev pub ghosts-give_bit_as : goal.ghosts-give_bit_as
ghosts-give_bit_as g a = record { shape = a.self.now.shape; purpose = ToGet; key = 0; stored = nothing_stored; with_ref = false }
