use Rattle.std.proofs.Common.{◌≡◌, List, [], ◌∷◌, ◌++◌, length, slice_get, Some, refl, ap, subst}
use Rattle.poolsteps.specs.declared.view.View.{View}
use Rattle.poolsteps.specs.Views.{the_lane}
use Rattle.shardpool.specs.Opened.{AreFirstLanes}
use Rattle.seatcalls.specs.Left.{held_after}
use Rattle.shardpool.specs.Tokens.{LaneOf}
use Rattle.handouts.proofs.test_handouts.opened.Goals as goal

last-at : (rest : List LaneOf) (lane : LaneOf) → slice_get (rest ++ lane ∷ []) (length rest) ≡ Some lane
last-at [] lane = refl
last-at (first ∷ rest) lane = last-at rest lane

pub returns : goal.returns
returns g c =
    let firsts = subst (AreFirstLanes c.in-Ok.pool) c.in-Some.ensures.items c.in-Ok.ensures.lanes in
    let of = firsts.each (length c.pop.new.self.items) c.in-Some.lane (last-at c.pop.new.self.items c.in-Some.lane) in
    (of.owned, ap (λ (book : View). held_after (the_lane book).mine 0) of.book)
