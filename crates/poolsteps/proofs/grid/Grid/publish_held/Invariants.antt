use Rattle.std.proofs.Common.{true}
use Rattle.poolsteps.specs.declared.steps.Purpose.TheVariants.{ToGet}
use Rattle.poolsteps.specs.Moved.{stored_of}
use Rattle.poolsteps.proofs.grid.Grid.publish_held.Given as goal

-- the cell that the share shows is published, with a reference
abbrev pub ghosts-publish_shown : goal.ghosts-publish_shown
ghosts-publish_shown g a = record { shape = a.self.now.shape; purpose = ToGet; key = a.key; stored = stored_of g.T.Clear.content g.T.Clear.room a.share.now; with_ref = true }
