-- All lanes are the pool's, and the row has room for them.
use Rattle.std.proofs.Common.{rules, ◌≡◌, [], ◌∷◌, ◌++◌, length, All, sym, ap, ◌∙◌, subst, arith}
use Rattle.std.proofs.lemmas.List.{length_push}
use Rattle.std.proofs.lemmas.List.Elements.{All-head, All-tail, All-push}
use Rattle.std.specs.Vec.Iter.{into_iter_items}
use Rattle.std.specs.Arc.{arc_value}
use Rattle.shardpool.specs.Tokens.{LaneOf}
use Rattle.shardpool.specs.Lanes.{Owns}
use Rattle.poolhandle.proofs.opening.all_lanes.Goals as goal

pub loop-lane-init : goal.loop-lane-init
loop-lane-init c =
    let Mine = λ (lane : LaneOf). Owns (arc_value c.args.shared.now).pool lane in
    let lanes = c.lanes_of-lanes.result.items in
    let items : c.push_reserved.new.self.items ≡ lanes ++ c.args.next ∷ [] = search rules in
    let same : into_iter_items c.into_iter-lane-iterator.result ≡ into_iter_items c.args.rest = search rules in
    let more = ap length items ∙ length_push lanes c.args.next in
    let as_many = ap length same in
    let counted = c.lanes_of-lanes.ensures.all in
    let room = c.requires.room in
    let kept = c.lanes_of-lanes.ensures.room in
    let still = c.push_reserved.ensures.capacity in
    record {
      left = subst (All Mine) (sym same) c.requires.rest;
      lanes = subst (All Mine) (sym items) (All-push Mine lanes c.args.next c.lanes_of-lanes.ensures.owned c.requires.next);
      all = omega (arith, more, as_many, counted);
      room = omega (arith, more, as_many, counted, room, kept, still);
    }

pub loop-lane-preserved : goal.loop-lane-preserved
loop-lane-preserved c =
    let Mine = λ (lane : LaneOf). Owns (arc_value c.args.shared.now).pool lane in
    let lanes = c.loop-lane.lanes.items in
    let rest = into_iter_items c.next.new.self in
    let left = subst (All Mine) c.in-Some.ensures.steps.0 c.loop-lane.invariant.left in
    let items : c.push_reserved-in-loop-lane.new.self.items ≡ lanes ++ c.in-Some.lane ∷ [] = search rules in
    let more = ap length items ∙ length_push lanes c.in-Some.lane in
    let shorter = ap length c.in-Some.ensures.steps.0 in
    let all = c.loop-lane.invariant.all in
    let room = c.loop-lane.invariant.room in
    let still = c.push_reserved-in-loop-lane.ensures.capacity in
    record {
      left = All-tail Mine c.in-Some.lane rest left;
      lanes = subst (All Mine) (sym items) (All-push Mine lanes c.in-Some.lane c.loop-lane.invariant.lanes (All-head Mine c.in-Some.lane rest left));
      all = omega (arith, more, shorter, all);
      room = omega (arith, more, shorter, room, still);
    }
