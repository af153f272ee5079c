-- The lane of each handle is the pool's.
use Rattle.std.proofs.Common.{rules, ◌≡◌, [], ◌∷◌, ◌++◌, length, All, sym, ◌∙◌, subst, ap, arith, Box, Global}
use Rattle.std.proofs.lemmas.List.{length_push}
use Rattle.std.proofs.lemmas.List.Elements.{All-head, All-tail, All-push}
use Rattle.std.specs.Vec.Iter.{into_iter_items}
use Rattle.std.specs.Arc.{arc_value}
use Rattle.shardpool.specs.Tokens.{LaneOf}
use Rattle.shardpool.specs.Lanes.{Owns}
use Rattle.poolhandle.specs.declared.handle.Handle.{Handle}
use Rattle.poolhandle.specs.declared.shared.Shared.{Shared}
use Rattle.poolhandle.proofs.opening.lanes_of.Goals as goal

pub loop-handle-preserved : goal.loop-handle-preserved
loop-handle-preserved c =
    let shared = arc_value c.args.shared.now in
    let Shares = λ (handle : Box Handle Global). arc_value handle.value.shared ≡ shared in
    let Mine = λ (lane : LaneOf). Owns shared.pool lane in
    let rest = into_iter_items c.next.new.self in
    let left = subst (All Shares) c.in-Some.ensures.steps.0 c.loop-handle.invariant.left in
    let share = All-head Shares c.in-Some.handle rest left in
    let inner : c.into_inner.result ≡ c.in-Some.handle.value = search rules in
    let same : arc_value c.into_parts-lane.result.0 ≡ shared = c.into_parts-lane.ensures.parts.0 ∙ (ap (λ (handle : Handle). arc_value handle.shared) inner ∙ share) in
    let lane : c.into_inner-in-loop-handle.result ≡ c.into_parts-lane.result.1.value = search rules in
    let own = subst (λ (other : LaneOf). Owns shared.pool other) (sym lane) (subst (λ (of : Shared). Owns of.pool c.into_parts-lane.result.1.value) same c.into_parts-lane.ensures.owned) in
    let lanes = c.loop-handle.lanes.items in
    let items : c.push_reserved.new.self.items ≡ lanes ++ c.into_inner-in-loop-handle.result ∷ [] = search rules in
    let more = ap length items ∙ length_push lanes c.into_inner-in-loop-handle.result in
    let shorter = ap length c.in-Some.ensures.steps.0 in
    let all = c.loop-handle.invariant.all in
    record {
      left = All-tail Shares c.in-Some.handle rest left;
      lanes = subst (All Mine) (sym items) (All-push Mine lanes c.into_inner-in-loop-handle.result c.loop-handle.invariant.lanes own);
      all = omega (arith, more, shorter, all);
      room = c.push_reserved.ensures.capacity ∙ c.loop-handle.invariant.room;
    }
