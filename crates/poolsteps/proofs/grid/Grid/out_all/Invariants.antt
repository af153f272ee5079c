use Rattle.poolsteps.specs.declared.view.Status.TheVariants.{Untouched, Emptied}
use Rattle.poolsteps.specs.Shares.{nothing_stored}
use Rattle.poolsteps.specs.Views.{the_lane, known_of}
use Rattle.poolsteps.proofs.Turning.{rising}
use Rattle.poolsteps.proofs.grid.Grid.out_all.Given as goal

-- the slots are taken as the lane left them
abbrev pub ghosts-lift_all : goal.ghosts-lift_all
ghosts-lift_all g a = record { shape = a.self.now.shape; directory = a.self.now.objects.ptr; place = a.spot.place; order = rising; status = Untouched; stored = nothing_stored }

-- the shares are of the cell that the lane then knows
abbrev pub ghosts-take_all : goal.ghosts-take_all
ghosts-take_all g a =
    record { shape = a.self.now.shape; directory = a.self.now.objects.ptr; place = a.spot.place; order = rising; status = Untouched; stored = known_of (the_lane a.hand.now.me.0) a.spot.place }

-- and the slots are given back empty
abbrev pub ghosts-lay_all : goal.ghosts-lay_all
ghosts-lay_all g a =
    record { shape = a.self.now.shape; directory = a.self.now.objects.ptr; place = a.spot.place; order = rising; status = Emptied; stored = known_of (the_lane a.hand.now.me.0) a.spot.place }
