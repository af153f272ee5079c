use Rattle.std.proofs.Common.{false}
use Rattle.keybits.specs.Keys.{place_of}
use Rattle.poolsteps.specs.declared.steps.Purpose.TheVariants.{ToGet}
use Rattle.poolsteps.specs.Views.{the_lane, known_of}
use Rattle.poolsteps.proofs.grid.Grid.publish.Given as goal

-- the cell that the lane knows is published, without a reference
abbrev pub ghosts-publish_as : goal.ghosts-publish_as
ghosts-publish_as g a = record { shape = a.self.now.shape; purpose = ToGet; key = a.key; stored = known_of (the_lane a.hand.now.me.0) (place_of a.key); with_ref = false }
