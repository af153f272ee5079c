use Rattle.poolsteps.specs.declared.view.Status.TheVariants.{Emptied}
use Rattle.poolsteps.specs.Shares.{nothing_stored}
use Rattle.poolsteps.specs.Views.{the_lane, known_of, status_of}
use Rattle.poolsteps.proofs.grid.Grid.fetch.Given as goal

-- the slot is taken as its lane left it
abbrev pub ghosts-lift : goal.ghosts-lift
ghosts-lift g a = record { shape = a.self.now.shape; directory = a.self.now.objects.ptr; place = a.spot.place; number = a.number; status = status_of (the_lane a.hand.now.me.0) a.spot.place a.number; stored = nothing_stored }

-- and given back empty, with the cell that the lane then knows
abbrev pub ghosts-lay : goal.ghosts-lay
ghosts-lay g a = record { shape = a.self.now.shape; directory = a.self.now.objects.ptr; place = a.spot.place; number = a.number; status = Emptied; stored = known_of (the_lane a.hand.now.me.0) a.spot.place }
