-- Each round of the loop puts one lane more into a slot.
use Rattle.std.proofs.Common.{rules, ◌≡◌, List, Option, [], ◌∷◌, ◌++◌, length, map, Some, refl, sym, ap, ◌∙◌, arith, append_assoc, append-nil}
use Rattle.std.specs.Vec.Iter.{into_iter_items}
use Rattle.std.proofs.lemmas.List.{nil_from_length, length-map, map-append}
use Rattle.shardpool.specs.Tokens.{LaneOf}
use Rattle.guards.proofs.Slots.{one-below}
use Rattle.guards.proofs.lanes.in_slots.Goals as goal

pub loop-lane-init : goal.loop-lane-init
loop-lane-init g c = record { so_far = c.requires.empty; room = c.requires.room; all = refl; rest = search rules }

pub push_reserved-requires : goal.push_reserved-requires
push_reserved-requires g c =
    let was = c.loop-lane.invariant in
    let gives = c.into_iter-lane-iterator.ensures.into_iter_gives in
    let step = c.in-Some.ensures.steps in
    let low = one-below c.args.lanes.items c.loop-lane.yielded (into_iter_items c.next.new.self) c.in-Some.lane
    (ap (λ (list : List LaneOf). c.loop-lane.yielded ++ list) (sym step.0) ∙ (was.all ∙ gives.0)) in
    let long = ap length was.so_far ∙ length-map c.loop-lane.yielded Some in
    let room = was.room in
    let stand = c.loop-lane.slots.ok.0 in
    omega (arith, low, long, room, stand)

pub loop-lane-preserved : goal.loop-lane-preserved
loop-lane-preserved g c =
    let was = c.loop-lane.invariant in
    let step = c.in-Some.ensures.steps in
    let pushed = c.push_reserved in record {
      so_far = pushed.ensures.items ∙ (ap (λ (list : List (Option LaneOf)). list ++ Some c.in-Some.lane ∷ []) was.so_far
          ∙ sym (map-append Some c.loop-lane.yielded (c.in-Some.lane ∷ [])));
      room = rw pushed.ensures.capacity was.room;
      all = append_assoc c.loop-lane.yielded (c.in-Some.lane ∷ []) (into_iter_items c.next.new.self)
          ∙ (ap (λ (list : List LaneOf). c.loop-lane.yielded ++ list) (sym step.0) ∙ was.all);
      rest = let before = was.rest in let gone = step.1 in let shorter = ap length step.0 in omega arith;
    }

pub returns : goal.returns
returns g c =
    let was = c.loop-lane.invariant in
    let gives = c.into_iter-lane-iterator.ensures.into_iter_gives in
    let none : into_iter_items c.loop-lane.lane-iterator ≡ [] = nil_from_length (into_iter_items c.loop-lane.lane-iterator) (sym was.rest ∙ c.in-None.ensures.steps.0) in
    let all : c.loop-lane.yielded ≡ c.args.lanes.items =
    sym (append-nil c.loop-lane.yielded) ∙ (ap (λ (list : List LaneOf). c.loop-lane.yielded ++ list) (sym none) ∙ (was.all ∙ gives.0)) in
    was.so_far ∙ ap (map Some) all
