-- Each round of the loop makes one part more.
use Rattle.std.proofs.Common.{rules, ◌≡◌, length, ap, arith, refl}
use Rattle.std.proofs.lemmas.Bool.{false≢true}
use Rattle.std.specs.Vec.Iter.{into_iter_items}
use Rattle.poolsteps.specs.Grids.{IsFirstHand}
use Rattle.shardpool.proofs.calls.Openings.{IsFirstPart, none-numbered, one-numbered, first-hands, next-hand, hands-left, part-made}
use Rattle.shardpool.proofs.opening.parts_of.Given.{Over}
use Rattle.shardpool.proofs.opening.parts_of.Goals as goal
use Rattle.shardpool.proofs.opening.parts_of.Goals.{In-Some}

pub loop-number-init : goal.loop-number-init
loop-number-init g c = record {
  made = none-numbered (IsFirstPart c.in_ok-grid.grid) c.in_ok-parts.parts.items (search rules);
  capacity = search rules;
  hands = rw c.into_iter-hands.ensures.rest (first-hands c.in_ok-grid.grid c.in_ok-grid.hands.items c.in_ok-grid.ensures.hands);
  rest = search rules;
}

-- the hand of this round
next : (g : Over) (c : In-Some g) → IsFirstHand c.in_ok-grid.grid c.loop-number.number c.in-Some.hand
next g c = (next-hand c.in_ok-grid.grid c.loop-number.number (into_iter_items c.loop-number.hands) (into_iter_items c.next.new.self) c.in-Some.hand c.loop-number.invariant.hands c.in-Some.ensures.items).1

pub unreachable-requires : goal.unreachable-requires
unreachable-requires g c =
    let hands = c.loop-number.invariant.hands.count in
    let rest = c.loop-number.invariant.rest in
    let low = c.loop-number-test.true in
    let lanes : c.in_ok-grid.grid.shape.lanes ≡ c.args.shape.now.lanes = λ i. (c.in_ok-grid.ensures.shape.0 i).lanes in
    false≢true (c.in_default.ensures.variant.1 (omega (arith, hands, rest, low, lanes)))

pub part_of-requires-clause-hand : goal.part_of-requires-clause-hand
part_of-requires-clause-hand g c = (next g (goal.at.part_of-requires-clause-hand g c).In-Some).1

pub push_reserved-requires : goal.push_reserved-requires
push_reserved-requires g c =
    let stand = c.loop-number.invariant.made.stand in
    let room = c.loop-number.invariant.capacity in
    let low = c.loop-number-test.true in
    omega (arith, stand, room, low)

pub loop-number-preserved : goal.loop-number-preserved
loop-number-preserved g c =
    let before = c.loop-number in
    let grid = c.in_ok-grid.grid in
    let pushed = c.push_reserved in
    let first = next g (goal.at.loop-number-preserved g c).In-Some in
    let part = part-made grid c.args.shape.now c.args.directory.ptr before.number before.number c.in-Some.hand c.in_ok-part_of.field-0 c.in_ok-grid.ensures.shape.0
    (λ i. (c.in_ok-grid.ensures.shape.1 i).ptr) refl first c.in_ok-part_of.ensures.0 c.in_ok-part_of.ensures.1 in record {
      made = one-numbered (IsFirstPart grid) before.number before.parts.items pushed.new.self.items c.in_ok-part_of.field-0 before.invariant.made part pushed.ensures.items;
      capacity = rw pushed.ensures.capacity before.invariant.capacity;
      hands = hands-left grid before.number (into_iter_items before.hands) (into_iter_items c.next.new.self) c.in-Some.hand before.invariant.hands c.in-Some.ensures.items;
      rest = let was = before.invariant.rest in let gone = c.in-Some.ensures.len in let shorter = ap length c.in-Some.ensures.items in omega (arith, was, gone, shorter);
    }

pub returns-clause-parts : goal.returns-clause-parts
returns-clause-parts g c =
    let made = c.loop-number.invariant.made in record {
      count =
          let stand = made.stand in
          let most = c.loop-number.auto.number-end in
          let least = c.loop-number-test.false in
          let lanes : c.in_ok-grid.grid.shape.lanes ≡ c.args.shape.now.lanes = λ i. (c.in_ok-grid.ensures.shape.0 i).lanes in
          omega (arith, stand, most, least, lanes);
      each = made.each;
    }
