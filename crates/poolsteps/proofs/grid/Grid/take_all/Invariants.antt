use Rattle.poolsteps.specs.Layout.{spots_at}
use Rattle.keybits.specs.Shapes.{callers}
use Rattle.std.proofs.Common.{◌≡◌, ◌-◌, ◌<◌, ℕ, Option, None}
use Rattle.poolsteps.specs.Share.{Share}
use Rattle.poolsteps.specs.Rest.{lowest_share}
use Rattle.poolsteps.specs.declared.view.Status.TheVariants.{Untouched}
use Rattle.poolsteps.specs.Grids.{SameSeat}
use Rattle.poolsteps.specs.Moved.{stored_of}
use Rattle.poolsteps.specs.Batches.{AreLeft}
use Rattle.poolsteps.proofs.Turning.{rising, turning}
use Rattle.poolsteps.proofs.grid.Grid.take_all.Given as goal

-- the shares from the number on are in one hand, and their slots are empty, behind the others
abbrev pub invariant-loop-number : goal.invariant-loop-number
invariant-loop-number g l = record {
  seat : SameSeat l.fn.hand l.hand;
  inside : l.number < (callers l.self.shape);
  values : ℕ → Option (Share g.row.T.Denot);
  are : AreLeft g.T.Clear.content g.T.Clear.room (spots_at l.self.objects.ptr l.self.shape) l.spot.place l.self.shape Untouched g.J.MoveAll.stored values;
  held : l.hand.me ≡ (l.fn.hand.me.0, turning l.self.shape l.spot.place rising values (λ _. None) l.number ((callers l.self.shape) - l.number));
  number_is : l.rest.number ≡ l.number;
  of_is : l.rest.of ≡ (callers l.self.shape);
  spot_is : l.rest.spot ≡ spots_at l.self.objects.ptr l.self.shape l.spot.place;
  cell_is : stored_of g.T.Clear.content g.T.Clear.room (lowest_share l.rest) ≡ g.J.MoveAll.stored;
}

abbrev pub decreases-loop-number : goal.decreases-loop-number
decreases-loop-number g l = l.number
