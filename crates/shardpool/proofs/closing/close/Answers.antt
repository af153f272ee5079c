-- A pool without guests is closed with none.
use Rattle.std.proofs.Common.{◌≡◌, [], Some, None, refl, sym, subst, arith, List}
use Rattle.seatcalls.specs.Visitors.{GuestOf}
use Rattle.shardpool.specs.Tokens.{GuestsOf}
use Rattle.shardpool.specs.Closings.{AreGuests}
use Rattle.shardpool.proofs.closing.close.Goals as goal

pub close_with_guests-requires-clause-lanes : goal.close_with_guests-requires-clause-lanes
close_with_guests-requires-clause-lanes g c = record { count = c.requires.lanes.count; owned = c.requires.lanes.owned; all = c.requires.lanes.all }

pub close_with_guests-requires-clause-guests : goal.close_with_guests-requires-clause-guests
close_with_guests-requires-clause-guests g c =
    let none : AreGuests c.args.pool (record { table = c.args.pool.table; shape = c.args.pool.shape; next = c.args.pool.shape.lanes }) [] = record {
      rest = (refl, refl);
      count = let none = c.requires.lanes.alone in omega (arith, none);
      owned = λ index guest at. let nowhere : None ≡ Some guest = at in absurd (cc nowhere);
      all = λ number high low. absurd (omega (arith, high, low));
    } in
    subst (λ (both : GuestsOf × List GuestOf). AreGuests c.args.pool both.0 both.1) (λ i. (sym c.none-undealt.ensures i, sym c.new-dealt.ensures.items i)) none

pub returns-clause-closes : goal.returns-clause-closes
returns-clause-closes g c = c.close_with_guests.ensures.closes.closes
