-- The lane stands in the slot of its number.
use Rattle.std.proofs.Common.{◌≡◌, ◌<◌, None, length, IfSome, sym, ap, ◌∙◌, subst, arith}
use Rattle.std.proofs.lemmas.List.{get_or_read}
use Rattle.keybits.specs.declared.shape.Shape.{Shape}
use Rattle.shardpool.specs.Lanes.{Owns}
use Rattle.guards.specs.Here.{LanesOf, HoldNothing, HaveCleared}
use Rattle.guards.proofs.Slots.{owned, given-slots, given-nothing, given-cleared, given-clean}
use Rattle.guards.proofs.lanes.Lanes.give.Goals as goal

pub invariant_of-self : goal.invariant_of-self
invariant_of-self g c =
    let lanes : LanesOf = record { pool = c.self.inside.of.value; slots = c.self.inside.slots.items } in
    let own = subst (λ (old : LanesOf). Owns old.pool c.args.lane) (sym c.self.view_is) c.requires in
    let fits = c.self.invariant in
    let shape = ap (λ (s : Shape). s.lanes) own.1 in
    let below = c.seen_law.ensures.number.1 in
    let count = fits.1.count in
    let is = c.number-index.ensures in
    let low : c.number-index.result < length lanes.slots = omega (arith, shape, below, count, is) in
    (fits.0, given-slots lanes c.number-index.result c.replace.new.self c.args.lane low c.replace.ensures.after fits.1 own is, fits.2, fits.3)

pub returns-clause-owns : goal.returns-clause-owns
returns-clause-owns g c =
    let inside = c.self.inside in
    let lanes : LanesOf = record { pool = inside.of.value; slots = inside.slots.items } in
    let own = subst (λ (old : LanesOf). Owns old.pool c.args.lane) (sym c.self.view_is) c.requires in
    let fits = c.self.invariant in
    let shape = ap (λ (s : Shape). s.lanes) own.1 in
    let below = c.seen_law.ensures.number.1 in
    let count = fits.1.count in
    let is = c.number-index.ensures in
    let low : c.number-index.result < length lanes.slots = omega (arith, shape, below, count, is) in
    subst (λ (old : LanesOf). IfSome c.replace.result (λ other. Owns old.pool other × (other.number ≡ c.args.lane.number))) c.self.view_is
    (rw (← is) (owned lanes c.number-index.result fits.1 c.replace.result
    (c.replace.ensures.value ∙ get_or_read inside.slots.items c.number-index.result c.index_mut.result.now low c.index_mut.ensures.value None)))

pub returns-clause-nothing : goal.returns-clause-nothing
returns-clause-nothing g c = λ nothing none.
    let lanes : LanesOf = record { pool = c.self.inside.of.value; slots = c.self.inside.slots.items } in
    let own = subst (λ (old : LanesOf). Owns old.pool c.args.lane) (sym c.self.view_is) c.requires in
    let shape = ap (λ (s : Shape). s.lanes) own.1 in
    let below = c.seen_law.ensures.number.1 in
    let count = c.self.invariant.1.count in
    let is = c.number-index.ensures in
    let low : c.number-index.result < length lanes.slots = omega (arith, shape, below, count, is) in
    given-nothing lanes c.number-index.result c.replace.new.self c.args.lane low c.replace.ensures.after (subst HoldNothing (sym c.self.view_is) nothing) none

pub returns-clause-cleared : goal.returns-clause-cleared
returns-clause-cleared g c = λ keys cleared.
    let lanes : LanesOf = record { pool = c.self.inside.of.value; slots = c.self.inside.slots.items } in
    let own = subst (λ (old : LanesOf). Owns old.pool c.args.lane) (sym c.self.view_is) c.requires in
    let shape = ap (λ (s : Shape). s.lanes) own.1 in
    let below = c.seen_law.ensures.number.1 in
    let count = c.self.invariant.1.count in
    let is = c.number-index.ensures in
    let low : c.number-index.result < length lanes.slots = omega (arith, shape, below, count, is) in
    given-cleared lanes c.number-index.result c.replace.new.self c.args.lane low c.replace.ensures.after keys (subst (HaveCleared keys) (sym c.self.view_is) cleared)

pub returns-clause-clean : goal.returns-clause-clean
returns-clause-clean g c = λ keys cleared none.
    let lanes : LanesOf = record { pool = c.self.inside.of.value; slots = c.self.inside.slots.items } in
    let own = subst (λ (old : LanesOf). Owns old.pool c.args.lane) (sym c.self.view_is) c.requires in
    let shape = ap (λ (s : Shape). s.lanes) own.1 in
    let below = c.seen_law.ensures.number.1 in
    let count = c.self.invariant.1.count in
    let is = c.number-index.ensures in
    let low : c.number-index.result < length lanes.slots = omega (arith, shape, below, count, is) in
    given-clean lanes c.number-index.result c.replace.new.self c.args.lane low c.replace.ensures.after keys (subst (HaveCleared keys) (sym c.self.view_is) cleared) none
