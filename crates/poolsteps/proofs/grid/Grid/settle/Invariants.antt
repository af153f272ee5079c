use Rattle.poolsteps.specs.declared.view.Status.TheVariants.{Emptied}
use Rattle.poolsteps.specs.Shares.{nothing_stored}
use Rattle.poolsteps.specs.Views.{the_lane, known_of}
use Rattle.poolsteps.proofs.Carrying.{first_value, left_held, stored_or}
use Rattle.poolsteps.proofs.grid.Grid.settle.Given as goal

-- the slot is taken empty
abbrev pub ghosts-lift : goal.ghosts-lift
ghosts-lift g a = record { shape = a.self.now.shape; directory = a.self.now.objects.ptr; place = a.spot.place; number = a.number; status = Emptied; stored = nothing_stored }

-- and given back with what is then in it
abbrev pub ghosts-lay : goal.ghosts-lay
ghosts-lay g a = record {
  shape = a.self.now.shape;
  directory = a.self.now.objects.ptr;
  place = a.spot.place;
  number = a.number;
  status = left_held (first_value a.hand.now.me.1);
  stored = stored_or g.T.Clear.content g.T.Clear.room (known_of (the_lane a.hand.now.me.0) a.spot.place) (first_value a.hand.now.me.1);
}
