use Rattle.poolsteps.specs.Rest.{lowest_share}
use Rattle.poolsteps.specs.declared.view.Status.TheVariants.{Untouched, Emptied}
use Rattle.poolsteps.specs.Shares.{nothing_stored}
use Rattle.poolsteps.specs.Moved.{stored_of}
use Rattle.poolsteps.proofs.Carrying.{first_value, stored_held}
use Rattle.poolsteps.proofs.Turning.{falling}
use Rattle.poolsteps.proofs.grid.Grid.back_all.Given as goal

-- the slots are taken empty
abbrev pub ghosts-lift_all : goal.ghosts-lift_all
ghosts-lift_all g a = record { shape = a.self.now.shape; directory = a.self.now.objects.ptr; place = a.spot.place; order = falling a.self.now.shape; status = Emptied; stored = nothing_stored }

abbrev pub ghosts-put_all : goal.ghosts-put_all
ghosts-put_all g a = record {
  shape = a.self.now.shape;
  directory = a.self.now.objects.ptr;
  place = a.spot.place;
  order = falling a.self.now.shape;
  status = Untouched;
  stored = stored_of g.T.Clear.content g.T.Clear.room (lowest_share a.rest);
}

-- and given back with the shares that are then in them
abbrev pub ghosts-lay_all : goal.ghosts-lay_all
ghosts-lay_all g a = record {
  shape = a.self.now.shape;
  directory = a.self.now.objects.ptr;
  place = a.spot.place;
  order = falling a.self.now.shape;
  status = Untouched;
  stored = stored_held g.T.Clear.content g.T.Clear.room (first_value a.hand.now.me.1);
}
