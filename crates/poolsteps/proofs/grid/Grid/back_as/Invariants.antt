use Rattle.poolsteps.specs.declared.view.Status.TheVariants.{Emptied}
use Rattle.poolsteps.specs.Shares.{nothing_stored}
use Rattle.poolsteps.proofs.Carrying.{first_value, stored_held}
use Rattle.poolsteps.proofs.grid.Grid.back_as.Given as goal

-- the slot is taken empty
abbrev pub ghosts-lift : goal.ghosts-lift
ghosts-lift g a = record { shape = a.self.now.shape; directory = a.self.now.objects.ptr; place = a.spot.place; number = a.number; status = Emptied; stored = nothing_stored }

-- and given back with the share that is then in it
abbrev pub ghosts-lay : goal.ghosts-lay
ghosts-lay g a = record {
  shape = a.self.now.shape;
  directory = a.self.now.objects.ptr;
  place = a.spot.place;
  number = a.number;
  status = g.J.Move.status;
  stored = stored_held g.T.Clear.content g.T.Clear.room (first_value a.hand.now.me.1);
}
