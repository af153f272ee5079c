use Rattle.std.proofs.Common.{false}
use Rattle.poolsteps.specs.Shares.{nothing_stored}
use Rattle.poolsteps.specs.declared.steps.Purpose.TheVariants.{ToGet}
use Rattle.poolsteps.proofs.grid.Grid.leave.Given as goal

-- what the caller asks for, at this table
abbrev pub ghosts-leave_as : goal.ghosts-leave_as
ghosts-leave_as g a = record { shape = a.self.now.shape; purpose = ToGet; key = a.key; stored = nothing_stored; with_ref = false }
