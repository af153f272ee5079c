use Rattle.std.proofs.Common.{Bool, subst}
use Rattle.outcomes.specs.Search.{AreTried}
use Rattle.outcomes.proofs.SearchLemmas.{visited-on, visited-over, tried-ended}
use Rattle.outcomes.proofs.search.visit.Goals as goal

pub returns-then-not-ended : goal.returns-then-not-ended
returns-then-not-ended c = λ size r reached shown.
    let z = c.args.shape.now in
    let scripts = c.args.scripts.now in
    let from = c.args.from.now in
    let next = c.args.next.now.items in
    let new = c.try_lanes.new.next.items in
    visited-on z scripts size from next new c.args.table.now.items shown
    (subst (λ (b : Bool). AreTried z scripts size from z.lanes next new b) c.if-not-ended.true (c.in_ok-ended.ensures size r reached))

pub returns : goal.returns
returns c = λ size r reached shown.
    let z = c.args.shape.now in
    let scripts = c.args.scripts.now in
    let from = c.args.from.now in
    let next = c.args.next.now.items in
    let new = c.try_lanes.new.next.items in
    let tried = subst (λ (b : Bool). AreTried z scripts size from z.lanes next new b) c.if-not-ended.false (c.in_ok-ended.ensures size r reached) in
    visited-over z scripts size from next new c.args.table.now.items _ tried
    (c.in_ok-conclude.ensures scripts size r (tried-ended z scripts size from next new tried) shown)
