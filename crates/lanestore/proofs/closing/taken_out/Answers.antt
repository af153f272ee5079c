-- What lies in a place is a lane of the pool.
use Rattle.std.proofs.Common.{rules, ◌≡◌, [], ◌∷◌, ◌++◌, All, Contains, sym, subst, List}
use Rattle.std.proofs.lemmas.List.Elements.{All-head, All-tail, All-push, Contains-append_left}
use Rattle.std.specs.Vec.Iter.{into_iter_items}
use Rattle.shardpool.specs.Tokens.{PoolOf, LaneOf}
use Rattle.shardpool.specs.Lanes.{Owns}
use Rattle.lanestore.proofs.closing.taken_out.Goals as goal

pub loop-place-init : goal.loop-place-init
loop-place-init g c =
    let IsTag = λ (tag : PoolOf). tag ≡ c.args.pool.now in record {
      tags = subst (All IsTag) (sym c.into_iter-place-iterator.ensures.into_iter_gives.0) c.requires.places;
      owned = c.requires.row;
      kept = λ lane has. has;
    }

pub loop-place-preserved-in-Continue-1 : goal.loop-place-preserved-in-Continue-1
loop-place-preserved-in-Continue-1 g c =
    let IsTag = λ (tag : PoolOf). tag ≡ c.args.pool.now in
    let Mine = λ (other : LaneOf). Owns c.args.pool.now other in
    let rest = into_iter_items c.next.new.self in
    let tags = subst (All IsTag) c.in-Some.ensures.steps.0 c.loop-place.invariant.tags in
    let tag = All-head IsTag c.in-Some.place rest tags in
    let lanes = c.loop-place.lanes.items in
    let added = c.into_inner.result.lane in
    let items : c.push.new.self.items ≡ lanes ++ added ∷ [] = search rules in
    let given : Owns c.in-Some.place c.in-Some-into_keeper.keeper.value.lane = search rules in
    let is : added ≡ c.in-Some-into_keeper.keeper.value.lane = search rules in
    let own = subst (λ (pool : PoolOf). Owns pool added) tag (subst (Owns c.in-Some.place) (sym is) given) in record {
      tags = All-tail IsTag c.in-Some.place rest tags;
      owned = subst (All Mine) (sym items) (All-push Mine lanes added c.loop-place.invariant.owned own);
      kept = λ lane has. subst (λ (all : List LaneOf). Contains all lane) (sym items) (Contains-append_left lanes (added ∷ []) lane (c.loop-place.invariant.kept lane has));
    }

pub loop-place-preserved : goal.loop-place-preserved
loop-place-preserved g c =
    let IsTag = λ (tag : PoolOf). tag ≡ c.args.pool.now in
    let tags = subst (All IsTag) c.in-Some.ensures.steps.0 c.loop-place.invariant.tags in record {
      tags = All-tail IsTag c.in-Some.place (into_iter_items c.next.new.self) tags;
      owned = c.loop-place.invariant.owned;
      kept = c.loop-place.invariant.kept;
    }
