-- Each round of the loop sees one lane more.
use Rattle.std.proofs.Common.{◌<◌, length, not, ap, ◌∙◌, subst, arith}
use Rattle.guards.specs.Here.{LanesOf, AreHereBelow, IsFirstMissing}
use Rattle.guards.proofs.Slots.{here-more, first-missing}
use Rattle.guards.proofs.lanes.Lanes.first_missing.Goals as goal

pub returns-then-is_none-clause-some : goal.returns-then-is_none-clause-some
returns-then-is_none-clause-some g c =
    let lanes : LanesOf = record { pool = c.self.inside.of.value; slots = c.self.inside.slots.items } in
    let count = c.self.invariant.0 in
    let slots = c.self.invariant.1 in
    let wide = slots.count in
    let low : c.loop-number.number < length lanes.slots = omega (arith, count, wide) in
    subst (λ (shown : LanesOf). IsFirstMissing shown c.loop-number.number) c.self.view_is
    (first-missing lanes c.loop-number.number c.index.result.now low c.index.ensures (c.is_none.ensures ∙ ap not c.if-is_none.true) slots c.loop-number.invariant)

pub loop-number-preserved : goal.loop-number-preserved
loop-number-preserved g c =
    let lanes : LanesOf = record { pool = c.self.inside.of.value; slots = c.self.inside.slots.items } in
    let count = c.self.invariant.0 in
    let wide = c.self.invariant.1.count in
    let low : c.loop-number.number < length lanes.slots = omega (arith, count, wide) in
    here-more lanes c.loop-number.number c.index.result.now low c.index.ensures (c.is_none.ensures ∙ ap not c.if-is_none.false) c.loop-number.invariant

pub returns-clause-none : goal.returns-clause-none
returns-clause-none g c =
    let count = c.self.invariant.0 in
    subst (λ (shown : LanesOf). AreHereBelow shown shown.pool.shape.lanes) c.self.view_is
    (λ low is. c.loop-number.invariant low (omega (arith, is, count)))
