-- Each lane that a pool is opened with has a handle.
use Rattle.std.proofs.Common.{rules, refl, ◌≡◌, ◌+◌, List, [], ◌∷◌, ◌++◌, length, sym, ap, ◌∙◌, subst, arith, Box, Global}
use Rattle.std.proofs.lemmas.List.{nil_from_length, length_push}
use Rattle.std.specs.Vec.Iter.{into_iter_items}
use Rattle.std.specs.Arc.{arc_value}
use Rattle.shardpool.specs.Tokens.{LaneOf}
use Rattle.poolsteps.specs.declared.view.View.{View}
use Rattle.poolsteps.specs.Views.{the_lane}
use Rattle.seatcalls.specs.Left.{held_after}
use Rattle.shardpool.specs.Lanes.{Owns}
use Rattle.shardpool.specs.Opened.{AreFirstLanes}
use Rattle.poolhandle.specs.declared.handle.Handle.{Handle}
use Rattle.poolhandle.proofs.Owned.{AreNext, AreFirst, first-lanes, next-head, next-tail, first-more, owned-next, shared-first}
use Rattle.poolhandle.proofs.opening.each_handle.Goals as goal

pub loop-lane-init : goal.loop-lane-init
loop-lane-init c =
    let shared = arc_value c.args.shared in
    let lanes = into_iter_items c.into_iter-rest.result in
    let none = c.requires.empty.0 in
    let gives : lanes ≡ c.args.lanes.items = c.into_iter-rest.ensures.rest in
    let first : AreFirstLanes shared.pool lanes = subst (λ (all : List LaneOf). AreFirstLanes shared.pool all) (sym gives) c.requires.lanes in
    record {
      next = subst (λ (handles : List (Box Handle Global)). AreNext shared.pool (length handles) lanes) (sym none) (first-lanes first);
      first = subst (λ (handles : List (Box Handle Global)). AreFirst shared handles) (sym none) (λ index handle is. absurd (cc is));
      all = let empty = ap length none in let count = first.count in omega (arith, empty, count);
      room = let empty = ap length none in let all = ap length gives in let room = c.requires.room.0 in omega (arith, empty, all, room);
      rest = search rules;
      back = c.requires.empty.1;
      left = let empty = ap length none in let all = ap length gives in let left = c.requires.room.1 in omega (arith, empty, all, left);
    }

pub handle_of-requires : goal.handle_of-requires
handle_of-requires c =
    let handles = c.loop-lane.handles.items in
    let rest = into_iter_items c.next.new.self in
    let next = subst (λ (lanes : List LaneOf). AreNext (arc_value c.args.shared).pool (length handles) lanes) c.in-Some.ensures.items c.loop-lane.invariant.next in
    let first = next-head (length handles) c.in-Some.lane rest next in
    record { owns = first.owned; none = ap (λ (view : View). held_after (the_lane view).mine 0) first.book }

pub give_up-requires-clause-handles : goal.give_up-requires-clause-handles
give_up-requires-clause-handles c = shared-first c.loop-lane.handles.items c.loop-lane.invariant.first

pub give_up-requires-clause-next : goal.give_up-requires-clause-next
give_up-requires-clause-next c =
    let handles = c.loop-lane.handles.items in
    let pool = (arc_value c.args.shared).pool in
    let rest = into_iter_items c.next.new.self in
    let next = subst (λ (lanes : List LaneOf). AreNext pool (length handles) lanes) c.in-Some.ensures.items c.loop-lane.invariant.next in
    subst (λ (lane : LaneOf). Owns pool lane) (sym c.in-Err.ensures.err) (next-head (length handles) c.in-Some.lane rest next).owned

pub give_up-requires-clause-rest : goal.give_up-requires-clause-rest
give_up-requires-clause-rest c =
    let handles = c.loop-lane.handles.items in
    let pool = (arc_value c.args.shared).pool in
    let rest = into_iter_items c.next.new.self in
    let next = subst (λ (lanes : List LaneOf). AreNext pool (length handles) lanes) c.in-Some.ensures.items c.loop-lane.invariant.next in
    owned-next (length handles + 1) rest (next-tail (length handles) (length handles + 1) c.in-Some.lane rest refl next)

pub give_up-requires-clause-room : goal.give_up-requires-clause-room
give_up-requires-clause-room c =
    let shorter = ap length c.in-Some.ensures.items in
    let left = c.loop-lane.invariant.left in
    omega (arith, shorter, left)

pub loop-lane-preserved : goal.loop-lane-preserved
loop-lane-preserved c =
    let shared = arc_value c.args.shared in
    let before = c.loop-lane.handles.items in
    let after = c.push_reserved.new.self.items in
    let rest = into_iter_items c.next.new.self in
    let handle = c.in-Ok.handle in
    let next = subst (λ (lanes : List LaneOf). AreNext shared.pool (length before) lanes) c.in-Some.ensures.items c.loop-lane.invariant.next in
    let pushed : after ≡ before ++ handle ∷ [] = search rules in
    let more : length after ≡ length before + 1 = ap length pushed ∙ length_push before handle in
    let shorter = ap length c.in-Some.ensures.items in
    let all = c.loop-lane.invariant.all in
    record {
      next = next-tail (length before) (length after) c.in-Some.lane rest more next;
      first = subst (AreFirst shared) (sym pushed) (first-more before c.in-Some.lane handle c.loop-lane.invariant.first c.in-Ok.ensures.ok (next-head (length before) c.in-Some.lane rest next));
      all = omega (arith, more, shorter, all);
      room = let room = c.loop-lane.invariant.room in let same = c.push_reserved.ensures.capacity in omega (arith, more, shorter, room, same);
      rest = let was = c.loop-lane.invariant.rest in let gone = c.in-Some.ensures.len in omega (arith, was, gone, shorter);
      back = c.loop-lane.invariant.back;
      left = let left = c.loop-lane.invariant.left in omega (arith, more, shorter, left);
    }

pub returns : goal.returns
returns c =
    let shared = arc_value c.args.shared in
    let rest = into_iter_items c.loop-lane.rest in
    let none : rest ≡ [] = nil_from_length rest (sym c.loop-lane.invariant.rest ∙ c.in_default.ensures.cases.0) in
    let all = c.loop-lane.invariant.all in
    let over = ap length none in
    record { shared = shared; shared_is = (refl, refl); count = omega (arith, all, over); each = c.loop-lane.invariant.first }
