use Rattle.poolsteps.specs.declared.view.Status.TheVariants.{Whole}
use Rattle.poolsteps.specs.Shares.{nothing_stored}
use Rattle.poolsteps.proofs.grid.Grid.out_whole.Given as goal

-- how the lane left the slot
abbrev pub ghosts-out_as : goal.ghosts-out_as
ghosts-out_as g a = record { shape = a.self.now.shape; directory = a.self.now.objects.ptr; place = a.spot.place; number = a.number; status = Whole; stored = nothing_stored }
