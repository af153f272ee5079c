-- Each round of the loop takes one lane more apart, and the last is taken apart behind it.
use Rattle.std.proofs.Common.{rules, ◌≡◌, List, [], ◌∷◌, ◌++◌, length, refl, ap, sym, ◌∙◌, subst, arith, append_assoc, append-nil}
use Rattle.std.specs.Vec.Iter.{into_iter_items}
use Rattle.std.proofs.lemmas.List.{nil_from_length}
use Rattle.shardpool.specs.Tokens.{LaneOf}
use Rattle.shardpool.specs.Partings.{AreParted}
use Rattle.shardpool.proofs.at_close.Parts.{below-all, none-parted, one-parted}
use Rattle.shardpool.proofs.closing.take_apart.Goals as goal

pub loop-lane-init : goal.loop-lane-init
loop-lane-init g c =
    let gives = c.into_iter-lane-iterator.ensures.into_iter_gives in record {
      parted = none-parted g.T.Clear.content g.T.Clear.room c.taken_apart-hand.result.2.hands.items c.args.states.items c.taken_apart-hand.result.2.empty.0 c.requires.states.0;
      hands = c.taken_apart-hand.result.2.empty.1;
      states = c.requires.states.1;
      all = refl;
      rest = search rules;
    }

pub push_reserved-requires : goal.push_reserved-requires
push_reserved-requires g c =
    let was = c.loop-lane.invariant in
    let gives = c.into_iter-lane-iterator.ensures.into_iter_gives in
    let low = below-all c.args.lanes.items c.pop.new.self.items c.loop-lane.yielded (into_iter_items c.loop-lane.lane-iterator) c.in-Some.last c.in-Some.ensures.items (was.all ∙ gives.0) in
    let long = was.parted.count.0 in
    let room = was.hands in
    let few = c.requires.lanes.1 in
    let stand = c.loop-lane.hands.ok.0 in
    omega (arith, low, long, room, few, stand)

pub push_reserved-requires-in-loop-lane : goal.push_reserved-requires-in-loop-lane
push_reserved-requires-in-loop-lane g c =
    let was = c.loop-lane.invariant in
    let gives = c.into_iter-lane-iterator.ensures.into_iter_gives in
    let low = below-all c.args.lanes.items c.pop.new.self.items c.loop-lane.yielded (into_iter_items c.loop-lane.lane-iterator) c.in-Some.last c.in-Some.ensures.items (was.all ∙ gives.0) in
    let long = was.parted.count.1 in
    let room = was.states in
    let stand = c.loop-lane.states.ok.0 in
    omega (arith, low, long, room, stand)

pub loop-lane-preserved : goal.loop-lane-preserved
loop-lane-preserved g c =
    let was = c.loop-lane.invariant in
    let step = c.in-Some-lane.ensures.steps in
    let one = c.push_reserved in
    let two = c.push_reserved-in-loop-lane in record {
      parted = one-parted g.T.Clear.content g.T.Clear.room one.new.self.items two.new.self.items c.in-Some-lane.lane c.taken_apart-hand-in-loop-lane.result.0 c.taken_apart-hand-in-loop-lane.result.1
          was.parted c.taken_apart-hand-in-loop-lane.ensures one.ensures.items two.ensures.items;
      hands = rw one.ensures.capacity was.hands;
      states = rw two.ensures.capacity was.states;
      all = append_assoc c.loop-lane.yielded (c.in-Some-lane.lane ∷ []) (into_iter_items c.next.new.self)
          ∙ (ap (λ (list : List LaneOf). c.loop-lane.yielded ++ list) (sym step.0) ∙ was.all);
      rest = let before = was.rest in let gone = step.1 in let shorter = ap length step.0 in omega arith;
    }

pub push_reserved-requires-2 : goal.push_reserved-requires-2
push_reserved-requires-2 g c =
    let was = c.loop-lane.invariant in
    let gives = c.into_iter-lane-iterator.ensures.into_iter_gives in
    let low = below-all c.args.lanes.items c.pop.new.self.items c.loop-lane.yielded (into_iter_items c.loop-lane.lane-iterator) c.in-Some.last c.in-Some.ensures.items (was.all ∙ gives.0) in
    let long = was.parted.count.0 in
    let room = was.hands in
    let few = c.requires.lanes.1 in
    let stand = c.loop-lane.hands.ok.0 in
    omega (arith, low, long, room, few, stand)

pub push_reserved-requires-3 : goal.push_reserved-requires-3
push_reserved-requires-3 g c =
    let was = c.loop-lane.invariant in
    let gives = c.into_iter-lane-iterator.ensures.into_iter_gives in
    let low = below-all c.args.lanes.items c.pop.new.self.items c.loop-lane.yielded (into_iter_items c.loop-lane.lane-iterator) c.in-Some.last c.in-Some.ensures.items (was.all ∙ gives.0) in
    let long = was.parted.count.1 in
    let room = was.states in
    let stand = c.loop-lane.states.ok.0 in
    omega (arith, low, long, room, stand)

pub returns-clause-parted : goal.returns-clause-parted
returns-clause-parted g c =
    let was = c.loop-lane.invariant in
    let gives = c.into_iter-lane-iterator.ensures.into_iter_gives in
    let none : into_iter_items c.loop-lane.lane-iterator ≡ [] = nil_from_length (into_iter_items c.loop-lane.lane-iterator) (sym was.rest ∙ c.in-None.ensures.steps.0) in
    let front : c.loop-lane.yielded ≡ c.pop.new.self.items =
    sym (append-nil c.loop-lane.yielded) ∙ (ap (λ (list : List LaneOf). c.loop-lane.yielded ++ list) (sym none) ∙ (was.all ∙ gives.0)) in
    let whole : c.loop-lane.yielded ++ c.in-Some.last ∷ [] ≡ c.args.lanes.items =
    ap (λ (list : List LaneOf). list ++ c.in-Some.last ∷ []) front ∙ sym {A = List LaneOf} c.in-Some.ensures.items in
    subst (λ (list : List LaneOf). AreParted g.T.Clear.content g.T.Clear.room list c.push_reserved-2.new.self.items c.push_reserved-3.new.self.items) whole
    (one-parted g.T.Clear.content g.T.Clear.room c.push_reserved-2.new.self.items c.push_reserved-3.new.self.items c.in-Some.last c.taken_apart-hand.result.0 c.taken_apart-hand.result.1
    was.parted c.taken_apart-hand.ensures c.push_reserved-2.ensures.items c.push_reserved-3.ensures.items)

pub returns-clause-room : goal.returns-clause-room
returns-clause-room g c = rw c.push_reserved-2.ensures.capacity c.loop-lane.invariant.hands
