-- Behind the hands stand those of the guests so far, which with those that are left are all.
use Rattle.std.proofs.Common.{◌≡◌, ◌++◌, List, length}
use Rattle.std.specs.Prelude.{Option}
use Rattle.std.specs.Vec.{vec_capacity}
use Rattle.std.specs.Vec.Iter.{into_iter_items, into_iter_len}
use Rattle.atomic_table.specs.declared.shared.Seat.{Seat}
use Rattle.poolsteps.specs.Share.{Share}
use Rattle.poolsteps.specs.declared.view.View.{View}
use Rattle.shardpool.specs.Partings.{AreHandsOf}
use Rattle.shardpool.proofs.closing.with_dealt.Given as goal

abbrev pub invariant-loop-guest : goal.invariant-loop-guest
invariant-loop-guest g l = record {
  more : List (Seat (Option (Share g.row.T.Denot)) View);
  hands : l.hands.items ≡ l.initial.hands.items ++ more;
  are : AreHandsOf l.yielded more;
  all : l.yielded ++ into_iter_items l.guest-iterator ≡ l.fn.guests.items;
  rest : into_iter_len l.guest-iterator ≡ length (into_iter_items l.guest-iterator);
  capacity : vec_capacity l.hands ≡ vec_capacity l.initial.hands;
}
