-- Each round of the loop deals out one lane more.
use Rattle.std.proofs.Common.{rules, ◌<◌, [], ◌∙◌, refl, ap, sym, subst, arith}
use Rattle.keybits.specs.Shapes.{callers}
use Rattle.keybits.specs.declared.shape.Shape.{Shape}
use Rattle.poolsteps.specs.Rule.{first_view}
use Rattle.poolsteps.specs.Grids.{IsUndealt}
use Rattle.poolsteps.proofs.Dealing.{none-dealt, one-dealt, all-dealt}
use Rattle.poolsteps.proofs.grid.Grid.new.Goals as goal

pub loop-init : goal.loop-init
loop-init g c = let made = c.in_ok-grid in (
  none-dealt made.grid made.seat c.in_ok-hands.hands.items made.ensures.seat.0
      (made.ensures.seat.1 ∙ ap (λ (z : Shape). (first_view z, [])) (sym made.ensures.shape.0)) (search rules),
  refl,
)

pub deal-requires : goal.deal-requires
deal-requires g c = c.loop.invariant.0.seat_of

pub push_reserved-requires : goal.push_reserved-requires
push_reserved-requires g c = search rules

pub loop-preserved : goal.loop-preserved
loop-preserved g c =
    let grid = c.in_ok-grid.grid in let hand = c.deal.ensures in let pushed = c.push_reserved in
    let low = subst (λ (z : Shape). c.loop.counter < z.lanes) (sym c.in_ok-grid.ensures.shape.0) c.loop-test.true in
    let less : c.loop.counter < callers grid.shape = omega (arith, low) in (
      one-dealt grid c.loop.counter c.loop.seat c.deal.new.seat c.deal.result c.loop.hands.items pushed.new.self.items c.loop.invariant.0 less
          hand.lane.0 hand.lane.1 hand.rest.0 hand.rest.1 pushed.ensures.items,
      rw pushed.ensures.capacity c.loop.invariant.1,
    )

pub returns-clause-hands : goal.returns-clause-hands
returns-clause-hands g c = let shape = c.in_ok-grid.ensures.shape.0 in
    (all-dealt c.in_ok-grid.grid c.loop.counter c.loop.seat c.loop.hands.items c.loop.invariant.0 (omega (arith, ap (λ (z : Shape). z.lanes) shape))).0

pub returns-clause-guests : goal.returns-clause-guests
returns-clause-guests g c =
    let grid = c.in_ok-grid.grid in let shape = c.in_ok-grid.ensures.shape.0 in
    subst (λ (z : Shape). IsUndealt grid z.lanes z.guests c.loop.seat) shape
    (all-dealt grid c.loop.counter c.loop.seat c.loop.hands.items c.loop.invariant.0 (omega (arith, ap (λ (z : Shape). z.lanes) shape))).1
