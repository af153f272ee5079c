use Rattle.std.proofs.Common.{◌≡◌, ◌-◌, ℕ, Option, Some}
use Rattle.keybits.specs.Shapes.{callers}
use Rattle.poolsteps.specs.Share.{Share, share_of}
use Rattle.poolsteps.specs.Grids.{SameSeat}
use Rattle.poolsteps.proofs.Turning.{falling, turning}
use Rattle.poolsteps.proofs.grid.Grid.put_all.Given as goal

-- the shares below the number are in their slots, behind the others, and the rest has those from it on
abbrev pub invariant-loop-number : goal.invariant-loop-number
invariant-loop-number g l = record {
  seat : SameSeat l.fn.hand l.hand;
  book : l.hand.me.0 ≡ l.fn.hand.me.0;
  values : ℕ → Option (Share g.row.T.Denot);
  held : l.hand.me.1 ≡ turning l.self.shape l.spot.place (falling l.self.shape) values (λ n. Some (share_of l.fn.rest.cell l.fn.rest.spot l.fn.rest.of l.fn.rest.object n))
      ((callers l.self.shape) - l.number) l.number;
  rest : l.rest ≡ record l.fn.rest { number = l.number };
}
