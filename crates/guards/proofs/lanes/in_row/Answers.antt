-- No slot is left that isn't filled.
use Rattle.std.proofs.Common.{◌≡◌, List, Option, None, Some, [], ◌∷◌, ◌++◌, length, map, refl, sym, ap, ◌∙◌, arith, append_assoc, append-nil}
use Rattle.std.proofs.lemmas.List.{nil_from_length, length-map, map-append}
use Rattle.std.specs.Vec.Iter.{into_iter_items}
use Rattle.shardpool.specs.Tokens.{LaneOf}
use Rattle.guards.proofs.Slots.{one-below, none-of-some}
use Rattle.guards.proofs.lanes.in_row.Goals as goal

pub unreachable-requires : goal.unreachable-requires
unreachable-requires g c =
    let was = c.loop-slot.invariant in
    let gives = c.into_iter-slot-iterator.ensures.into_iter_gives in
    let step = c.in-Some.ensures.steps in
    let next : into_iter_items c.loop-slot.slot-iterator ≡ None ∷ into_iter_items c.next.new.self =
    step.0 ∙ ap (λ (slot : Option LaneOf). slot ∷ into_iter_items c.next.new.self) c.in-None-slot.is in
    none-of-some c.requires.full.0 c.loop-slot.yielded (into_iter_items c.next.new.self)
    (ap (λ (list : List (Option LaneOf)). c.loop-slot.yielded ++ list) (sym next) ∙ (was.all ∙ (gives.0 ∙ c.requires.full.1)))

-- ---- the loop

pub loop-slot-init : goal.loop-slot-init
loop-slot-init g c =
    let gives = c.into_iter-slot-iterator.ensures.into_iter_gives in
    let stand = c.args.slots.ok.0 in
    let long = ap length gives.0 in
    let len = gives.1 in
    record { so_far = sym (ap (map Some) c.requires.empty); room = c.requires.room; all = refl; rest = omega (arith, stand, long, len) }

pub loop-slot-init-derived : goal.loop-slot-init-derived
loop-slot-init-derived g c = (tt, tt)

pub push_reserved-requires : goal.push_reserved-requires
push_reserved-requires g c =
    let was = c.loop-slot.invariant in
    let gives = c.into_iter-slot-iterator.ensures.into_iter_gives in
    let step = c.in-Some.ensures.steps in
    let low = one-below c.args.slots.items c.loop-slot.yielded (into_iter_items c.next.new.self) c.in-Some.slot
    (ap (λ (list : List (Option LaneOf)). c.loop-slot.yielded ++ list) (sym step.0) ∙ (was.all ∙ gives.0)) in
    let long = ap length was.so_far ∙ length-map c.loop-slot.row.items Some in
    let room = was.room in
    let stand = c.loop-slot.row.ok.0 in
    omega (arith, low, long, room, stand)

pub loop-slot-preserved : goal.loop-slot-preserved
loop-slot-preserved g c =
    let was = c.loop-slot.invariant in
    let step = c.in-Some.ensures.steps in
    let pushed = c.push_reserved in record {
      so_far = ap (λ (list : List (Option LaneOf)). list ++ c.in-Some.slot ∷ []) was.so_far
          ∙ (ap (λ (slot : Option LaneOf). map Some c.loop-slot.row.items ++ slot ∷ []) c.in-Some-slot.is
          ∙ (sym {A = List (Option LaneOf)} (map-append Some c.loop-slot.row.items (c.in-Some-slot.lane ∷ [])) ∙ ap (map Some) (sym {a = c.push_reserved.new.self.items} pushed.ensures.items)));
      room = rw pushed.ensures.capacity was.room;
      all = append_assoc c.loop-slot.yielded (c.in-Some.slot ∷ []) (into_iter_items c.next.new.self)
          ∙ (ap (λ (list : List (Option LaneOf)). c.loop-slot.yielded ++ list) (sym step.0) ∙ was.all);
      rest = let before = was.rest in let gone = step.1 in let shorter = ap length step.0 in omega (arith, before, gone, shorter);
    }

pub returns : goal.returns
returns g c =
    let was = c.loop-slot.invariant in
    let gives = c.into_iter-slot-iterator.ensures.into_iter_gives in
    let none : into_iter_items c.loop-slot.slot-iterator ≡ [] = nil_from_length (into_iter_items c.loop-slot.slot-iterator) (sym was.rest ∙ c.in-None.ensures.steps.0) in
    let all : c.loop-slot.yielded ≡ c.args.slots.items =
    sym (append-nil c.loop-slot.yielded) ∙ (ap (λ (list : List (Option LaneOf)). c.loop-slot.yielded ++ list) (sym none) ∙ (was.all ∙ gives.0)) in
    sym all ∙ was.so_far
