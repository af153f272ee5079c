use Rattle.std.proofs.Common.{◌≡◌, ℕ, ◌+◌, Bool, sym, subst, arith}
use Rattle.outcomes.specs.Search.{AreTried}
use Rattle.outcomes.proofs.SearchLemmas.{lanes-begun, lanes-on}
use Rattle.outcomes.proofs.search.try_lanes.Goals as goal

pub loop-lane-init : goal.loop-lane-init
loop-lane-init c = λ size r reached. lanes-begun c.args.shape.now c.args.scripts.now size c.args.from.now c.args.next.now.items reached

pub loop-lane-preserved : goal.loop-lane-preserved
loop-lane-preserved c = λ size r reached.
    let z = c.args.shape.now in
    let scripts = c.args.scripts.now in
    let from = c.args.from.now in
    let lane = c.loop-lane.lane in
    let before = c.loop-lane.invariant size r reached in
    let is = c.in_ok-went.ensures size r before.reached in
    subst (λ (b : Bool). AreTried z scripts size from (lane + 1) c.args.next.now.items c.try_lane.new.next.items b) (sym c.still_ended-ended.ensures)
    (lanes-on z scripts size from lane c.args.next.now.items c.loop-lane.next.items c.try_lane.new.next.items c.loop-lane.ended c.in_ok-went.went
    before is)

pub returns : goal.returns
returns c = λ size r reached.
    let last : c.loop-lane.lane ≡ c.args.shape.now.lanes = omega arith in
    subst (λ (k : ℕ). AreTried c.args.shape.now c.args.scripts.now size c.args.from.now k c.args.next.now.items c.loop-lane.next.items
    c.loop-lane.ended) last (c.loop-lane.invariant size r reached)
