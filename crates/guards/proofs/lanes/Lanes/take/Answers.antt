-- A lane that stands in a slot is the pool's.
use Rattle.std.proofs.Common.{◌≡◌, ◌<◌, ◌≤◌, length, IfSome, refl, sym, ap, ◌∙◌, subst, arith}
use Rattle.std.proofs.lemmas.List.{get_or_read}
use Rattle.std.specs.Prelude.{None, slice_set}
use Rattle.shardpool.specs.Lanes.{Owns}
use Rattle.guards.specs.Here.{LanesOf, lane_at, HoldNothing, HaveCleared, SameOthers}
use Rattle.guards.proofs.Slots.{owned, past-slots, taken-gone, taken-slots, taken-nothing, taken-cleared, same-others, found-nothing, found-cleared}
use Rattle.guards.proofs.lanes.Lanes.take.Goals as goal

-- ---- no slot has the number

pub returns-then-index-len-clause-lane : goal.returns-then-index-len-clause-lane
returns-then-index-len-clause-lane g c =
    let lanes : LanesOf = record { pool = c.self.inside.of.value; slots = c.self.inside.slots.items } in
    let high : length lanes.slots ≤ c.args.number = omega arith in
    sym (ap (λ (l : LanesOf). lane_at l c.args.number) (sym c.self.view_is) ∙ past-slots lanes c.args.number high)

pub returns-then-index-len-clause-gone : goal.returns-then-index-len-clause-gone
returns-then-index-len-clause-gone g c = sym (returns-then-index-len-clause-lane g c)

pub returns-then-index-len-clause-rest : goal.returns-then-index-len-clause-rest
returns-then-index-len-clause-rest g c = record { pool = refl; others = λ other differs. refl }

pub returns-then-index-len-clause-owns : goal.returns-then-index-len-clause-owns
returns-then-index-len-clause-owns g c = tt

pub returns-then-index-len-clause-refs : goal.returns-then-index-len-clause-refs
returns-then-index-len-clause-refs g c = λ nothing. tt

pub returns-then-index-len-clause-nothing : goal.returns-then-index-len-clause-nothing
returns-then-index-len-clause-nothing g c = λ nothing. nothing

pub returns-then-index-len-clause-clean : goal.returns-then-index-len-clause-clean
returns-then-index-len-clause-clean g c = λ cleared. tt

pub returns-then-index-len-clause-cleared : goal.returns-then-index-len-clause-cleared
returns-then-index-len-clause-cleared g c = λ keys cleared. cleared

-- ---- a slot has it

pub index_mut-requires : goal.index_mut-requires
index_mut-requires g c = omega arith

pub invariant_of-self : goal.invariant_of-self
invariant_of-self g c =
    let lanes : LanesOf = record { pool = c.self.inside.of.value; slots = c.self.inside.slots.items } in
    let low : c.args.number < length lanes.slots = omega arith in
    let fits = c.self.invariant in
    (fits.0, taken-slots lanes c.args.number c.take.new.self low c.take.ensures.after fits.1, fits.2, fits.3)

pub returns-clause-lane : goal.returns-clause-lane
returns-clause-lane g c =
    let lanes : LanesOf = record { pool = c.self.inside.of.value; slots = c.self.inside.slots.items } in
    let low : c.args.number < length lanes.slots = omega arith in
    (c.take.ensures.value ∙ get_or_read lanes.slots c.args.number c.index_mut.result.now low c.index_mut.ensures.value None)
    ∙ ap (λ (l : LanesOf). lane_at l c.args.number) c.self.view_is

pub returns-clause-gone : goal.returns-clause-gone
returns-clause-gone g c =
    let lanes : LanesOf = record { pool = c.self.inside.of.value; slots = c.self.inside.slots.items } in
    let low : c.args.number < length lanes.slots = omega arith in
    taken-gone lanes c.args.number c.take.new.self low c.take.ensures.after

pub returns-clause-rest : goal.returns-clause-rest
returns-clause-rest g c =
    let lanes : LanesOf = record { pool = c.self.inside.of.value; slots = c.self.inside.slots.items } in
    subst (λ (old : LanesOf). SameOthers c.args.number old (record { pool = c.self.inside.of.value; slots = slice_set c.self.inside.slots.items c.args.number c.take.new.self }))
    c.self.view_is (same-others lanes c.args.number c.take.new.self)

pub returns-clause-owns : goal.returns-clause-owns
returns-clause-owns g c =
    let inside = c.self.inside in
    subst (λ (lanes : LanesOf). IfSome c.take.result (λ lane. Owns lanes.pool lane × (lane.number ≡ c.args.number))) c.self.view_is
    (owned (record { pool = inside.of.value; slots = inside.slots.items }) c.args.number c.self.invariant.1 c.take.result
    (c.take.ensures.value ∙ get_or_read inside.slots.items c.args.number c.index_mut.result.now (omega arith) c.index_mut.ensures.value None))

pub returns-clause-refs : goal.returns-clause-refs
returns-clause-refs g c = λ nothing. found-nothing c.args.self.now c.args.number nothing c.take.result (returns-clause-lane g c)

pub returns-clause-nothing : goal.returns-clause-nothing
returns-clause-nothing g c = λ nothing.
    let lanes : LanesOf = record { pool = c.self.inside.of.value; slots = c.self.inside.slots.items } in
    let low : c.args.number < length lanes.slots = omega arith in
    taken-nothing lanes c.args.number c.take.new.self low c.take.ensures.after (subst HoldNothing (sym c.self.view_is) nothing)

pub returns-clause-clean : goal.returns-clause-clean
returns-clause-clean g c = λ cleared. found-cleared c.args.self.now c.args.number cleared c.take.result (returns-clause-lane g c)

pub returns-clause-cleared : goal.returns-clause-cleared
returns-clause-cleared g c = λ keys cleared.
    let lanes : LanesOf = record { pool = c.self.inside.of.value; slots = c.self.inside.slots.items } in
    let low : c.args.number < length lanes.slots = omega arith in
    taken-cleared lanes c.args.number c.take.new.self low c.take.ensures.after keys (subst (HaveCleared keys) (sym c.self.view_is) cleared)
