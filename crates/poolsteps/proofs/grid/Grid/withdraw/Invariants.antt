use Rattle.std.proofs.Common.{false}
use Rattle.poolsteps.specs.Shares.{nothing_stored}
use Rattle.poolsteps.specs.declared.steps.Purpose.TheVariants.{ToGet}
use Rattle.poolsteps.proofs.grid.Grid.withdraw.Given as goal

-- the key that the caller withdraws, at this grid
abbrev pub ghosts-withdraw_as : goal.ghosts-withdraw_as
ghosts-withdraw_as g a = record { shape = a.self.now.shape; purpose = ToGet; key = a.key; stored = nothing_stored; with_ref = false }
