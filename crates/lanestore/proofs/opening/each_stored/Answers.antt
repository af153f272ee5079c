-- One new lane of the pool more lies in a place, which is tagged with it; or the lanes that are given back are the pool's.
use Rattle.std.proofs.Common.{rules, ◌≡◌, [], ◌∷◌, ◌++◌, All, refl, sym, subst}
use Rattle.std.proofs.lemmas.List.Elements.{All-nil, All-head, All-tail, All-push}
use Rattle.std.specs.Vec.Iter.{into_iter_items}
use Rattle.shardpool.specs.Tokens.{PoolOf, LaneOf}
use Rattle.shardpool.specs.Lanes.{Owns}
use Rattle.lanestore.specs.Visits.{IsNew}
use Rattle.lanestore.proofs.Opened.{all-new, all-owned}
use Rattle.lanestore.proofs.opening.each_stored.Goals as goal

pub loop-lane-init : goal.loop-lane-init
loop-lane-init g c =
    let New = λ (lane : LaneOf). IsNew c.args.pool lane in
    let IsTag = λ (tag : PoolOf). tag ≡ c.args.pool in record {
      left = subst (All New) (sym c.into_iter-rest.ensures.rest) (all-new c.args.pool c.args.lanes.items c.requires.lanes);
      tags = subst (All IsTag) (sym c.requires.empty.0) (All-nil IsTag);
      back = c.requires.empty.1;
      same = refl;
    }

pub keeper_of-requires : goal.keeper_of-requires
keeper_of-requires g c =
    let New = λ (lane : LaneOf). IsNew c.loop-lane.pool lane in
    (All-head New c.in-Some.lane (into_iter_items c.next.new.self) (subst (All New) c.in-Some.ensures.items c.loop-lane.invariant.left)).1

pub new-requires : goal.new-requires
new-requires g c =
    let New = λ (lane : LaneOf). IsNew c.loop-lane.pool lane in
    let head = All-head New c.in-Some.lane (into_iter_items c.next.new.self) (subst (All New) c.in-Some.ensures.items c.loop-lane.invariant.left) in
    subst (λ (lane : LaneOf). Owns c.loop-lane.pool lane) (sym c.in-Ok.ensures.ok) head.0

pub loop-lane-preserved : goal.loop-lane-preserved
loop-lane-preserved g c =
    let New = λ (lane : LaneOf). IsNew c.loop-lane.pool lane in
    let IsTag = λ (tag : PoolOf). tag ≡ c.loop-lane.pool in
    let before = c.loop-lane.places.items in
    let added = c.new.result in
    let items : c.push.new.self.items ≡ before ++ added ∷ [] = search rules in record {
      left = All-tail New c.in-Some.lane (into_iter_items c.next.new.self) (subst (All New) c.in-Some.ensures.items c.loop-lane.invariant.left);
      tags = subst (All IsTag) (sym items) (All-push IsTag before added c.loop-lane.invariant.tags c.new.ensures);
      back = c.loop-lane.invariant.back;
      same = c.loop-lane.invariant.same;
    }

pub give_up-requires-clause-next : goal.give_up-requires-clause-next
give_up-requires-clause-next g c =
    let New = λ (lane : LaneOf). IsNew c.loop-lane.pool lane in
    let head = All-head New c.in-Some.lane (into_iter_items c.next.new.self) (subst (All New) c.in-Some.ensures.items c.loop-lane.invariant.left) in
    subst (λ (lane : LaneOf). Owns c.loop-lane.pool lane) (sym c.in-Err.ensures.err) head.0

pub give_up-requires-clause-rest : goal.give_up-requires-clause-rest
give_up-requires-clause-rest g c =
    let New = λ (lane : LaneOf). IsNew c.loop-lane.pool lane in
    let rest = into_iter_items c.next.new.self in
    all-owned c.loop-lane.pool rest (All-tail New c.in-Some.lane rest (subst (All New) c.in-Some.ensures.items c.loop-lane.invariant.left))

pub returns : goal.returns
returns g c = c.loop-lane.invariant.same
