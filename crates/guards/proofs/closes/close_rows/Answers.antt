-- Where each number is in its row, the rows have all lanes and all guests; where one is missing, they haven't.
use Rattle.std.proofs.Common.{refl}
use Rattle.guards.proofs.Whole.{all-lanes, all-guests, no-lane-missing, no-guest-missing}
use Rattle.guards.proofs.closes.close_rows.Goals.{else-are_all_lanes-via-then-are_all_lanes+else-are_all_guests, else-are_all_lanes-via-else-are_all_lanes}
use Rattle.guards.proofs.closes.close_rows.Goals as goal

pub close_with_guests-requires-clause-lanes : goal.close_with_guests-requires-clause-lanes
close_with_guests-requires-clause-lanes g c =
    all-lanes c.args.pool c.args.shape.now c.args.lanes.items c.deref.result.now c.requires.shape c.deref.ensures.value c.requires.lanes (c.if-are_all_lanes.ensures.all refl)

pub close_with_guests-requires-clause-guests : goal.close_with_guests-requires-clause-guests
close_with_guests-requires-clause-guests g c =
    all-guests c.args.pool c.args.shape.now c.args.undealt c.args.dealt.items c.deref-then-are_all_lanes.result.now c.left.result c.requires.shape c.requires.undealt
    c.deref-then-are_all_lanes.ensures.value c.left.ensures c.requires.dealt (c.if-are_all_guests.ensures.all refl)

pub returns-clause-all : goal.returns-clause-all
returns-clause-all g c = λ lanes guests. elim c.else-are_all_lanes.branch [
  | else-are_all_lanes-via-then-are_all_lanes+else-are_all_guests w ↦ absurd (no-guest-missing c.args.pool c.args.shape.now c.args.undealt c.args.dealt.items
      w.deref-then-are_all_lanes.result.now w.left.result c.requires.shape c.requires.undealt w.deref-then-are_all_lanes.ensures.value w.left.ensures guests (w.if-are_all_guests.ensures.missing refl))
  | else-are_all_lanes-via-else-are_all_lanes w ↦ absurd (no-lane-missing c.args.pool c.args.shape.now c.args.lanes.items c.deref.result.now c.requires.shape c.deref.ensures.value lanes
      (w.if-are_all_lanes.ensures.missing refl))
]
