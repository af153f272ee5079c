-- All lanes are the pool's.
use Rattle.std.proofs.Common.{rules, ◌≡◌, [], ◌∷◌, ◌++◌, All, sym, subst}
use Rattle.std.proofs.lemmas.List.Elements.{All-head, All-tail, All-push}
use Rattle.std.specs.Vec.Iter.{into_iter_items}
use Rattle.shardpool.specs.Tokens.{LaneOf}
use Rattle.shardpool.specs.Lanes.{Owns}
use Rattle.lanestore.proofs.opening.all_lanes.Goals as goal

pub loop-lane-init : goal.loop-lane-init
loop-lane-init g c =
    let Mine = λ (lane : LaneOf). Owns c.args.pool.now lane in
    let lanes = c.in_ok-lanes.lanes.items in
    let items : c.push.new.self.items ≡ lanes ++ c.args.next ∷ [] = search rules in
    let same : into_iter_items c.into_iter-lane-iterator.result ≡ into_iter_items c.args.rest = search rules in record {
      left = subst (All Mine) (sym same) c.requires.rest;
      lanes = subst (All Mine) (sym items) (All-push Mine lanes c.args.next c.in_ok-lanes.ensures.owned c.requires.next);
    }

pub loop-lane-preserved : goal.loop-lane-preserved
loop-lane-preserved g c =
    let Mine = λ (lane : LaneOf). Owns c.args.pool.now lane in
    let lanes = c.loop-lane.lanes.items in
    let rest = into_iter_items c.next-in-loop-lane.new.self in
    let left = subst (All Mine) c.in-Some.ensures.steps.0 c.loop-lane.invariant.left in
    let items : c.push-in-loop-lane.new.self.items ≡ lanes ++ c.in-Some.lane ∷ [] = search rules in record {
      left = All-tail Mine c.in-Some.lane rest left;
      lanes = subst (All Mine) (sym items) (All-push Mine lanes c.in-Some.lane c.loop-lane.invariant.lanes (All-head Mine c.in-Some.lane rest left));
    }
