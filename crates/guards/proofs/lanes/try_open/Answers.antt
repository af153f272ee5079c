-- The lanes that a pool is opened with stand in the slots of their numbers.
use Rattle.std.proofs.Common.{◌≡◌, ◌≤◌, [], sym, ap, ◌∙◌, subst, arith}
use Rattle.std.specs.Vec.{vec_capacity}
use Rattle.keybits.specs.declared.shape.Shape.{Shape}
use Rattle.shardpool.specs.Tokens.{PoolOf}
use Rattle.shardpool.specs.Opened.{AreFirstLanes}
use Rattle.guards.proofs.Slots.{ok-holds, first-slots, first-here, first-nothing, first-cleared}
use Rattle.guards.proofs.lanes.try_open.Goals as goal

pub in_slots-requires-clause-empty : goal.in_slots-requires-clause-empty
in_slots-requires-clause-empty g c = ok-holds c.with_capacity.result (λ v. v.items ≡ []) c.in_ok-slots.slots c.with_capacity.ensures.items c.in_ok-slots.ensures.value

pub in_slots-requires-clause-room : goal.in_slots-requires-clause-room
in_slots-requires-clause-room g c =
    let room = ok-holds c.with_capacity.result (λ v. c.args.shape.lanes ≤ vec_capacity v) c.in_ok-slots.slots c.with_capacity.ensures.capacity c.in_ok-slots.ensures.value in
    let count = c.in-Ok.ensures.lanes.count in
    let shape = ap (λ (s : Shape). s.lanes) c.in-Ok.ensures.pool in
    omega (arith, room, count, shape)

pub invariant_of-lanes : goal.invariant_of-lanes
invariant_of-lanes g c =
    let firsts = subst (λ (pool : PoolOf). AreFirstLanes pool c.in-Ok.lanes.items) (sym c.of.ensures) c.in-Ok.ensures.lanes in (
      sym (ap (λ (p : PoolOf). p.shape.lanes) c.of.ensures ∙ ap (λ (s : Shape). s.lanes) c.in-Ok.ensures.pool),
      first-slots c.of.result.value c.in-Ok.lanes.items c.in_slots.result.items c.in_slots.ensures firsts
          (ap (λ (p : PoolOf). p.shape.guests) c.of.ensures ∙ (ap (λ (s : Shape). s.guests) c.in-Ok.ensures.pool ∙ c.requires.alone)),
      ok-holds c.with_capacity-2.result (λ v. v.items ≡ []) c.in_ok-row.row c.with_capacity-2.ensures.items c.in_ok-row.ensures.value,
      ok-holds c.with_capacity-2.result (λ v. c.args.shape.lanes ≤ vec_capacity v) c.in_ok-row.row c.with_capacity-2.ensures.capacity c.in_ok-row.ensures.value,
    )

pub returns-clause-first : goal.returns-clause-first
returns-clause-first g c =
    let firsts = subst (λ (pool : PoolOf). AreFirstLanes pool c.in-Ok.lanes.items) (sym c.of.ensures) c.in-Ok.ensures.lanes in
    first-here c.of.result.value c.in-Ok.lanes.items c.in_slots.result.items c.in_slots.ensures firsts

pub returns-clause-nothing : goal.returns-clause-nothing
returns-clause-nothing g c =
    let firsts = subst (λ (pool : PoolOf). AreFirstLanes pool c.in-Ok.lanes.items) (sym c.of.ensures) c.in-Ok.ensures.lanes in
    first-nothing c.of.result.value c.in-Ok.lanes.items c.in_slots.result.items c.in_slots.ensures firsts

pub returns-clause-cleared : goal.returns-clause-cleared
returns-clause-cleared g c =
    let firsts = subst (λ (pool : PoolOf). AreFirstLanes pool c.in-Ok.lanes.items) (sym c.of.ensures) c.in-Ok.ensures.lanes in
    first-cleared c.of.result.value c.in-Ok.lanes.items c.in_slots.result.items c.in_slots.ensures firsts

-- ---- memory was refused

pub returns-in_err-slots-clause-shape : goal.returns-in_err-slots-clause-shape
returns-in_err-slots-clause-shape g c = rw c.from_residual.ensures tt

pub returns-in_err-slots-clause-first : goal.returns-in_err-slots-clause-first
returns-in_err-slots-clause-first g c = rw c.from_residual.ensures tt

pub returns-in_err-slots-clause-nothing : goal.returns-in_err-slots-clause-nothing
returns-in_err-slots-clause-nothing g c = rw c.from_residual.ensures tt

pub returns-in_err-slots-clause-cleared : goal.returns-in_err-slots-clause-cleared
returns-in_err-slots-clause-cleared g c = rw c.from_residual.ensures tt

pub returns-in_err-row-clause-shape : goal.returns-in_err-row-clause-shape
returns-in_err-row-clause-shape g c = rw c.from_residual-in_err-row.ensures tt

pub returns-in_err-row-clause-first : goal.returns-in_err-row-clause-first
returns-in_err-row-clause-first g c = rw c.from_residual-in_err-row.ensures tt

pub returns-in_err-row-clause-nothing : goal.returns-in_err-row-clause-nothing
returns-in_err-row-clause-nothing g c = rw c.from_residual-in_err-row.ensures tt

pub returns-in_err-row-clause-cleared : goal.returns-in_err-row-clause-cleared
returns-in_err-row-clause-cleared g c = rw c.from_residual-in_err-row.ensures tt

pub returns-in_default-clause-shape : goal.returns-in_default-clause-shape
returns-in_default-clause-shape g c = tt

pub returns-in_default-clause-first : goal.returns-in_default-clause-first
returns-in_default-clause-first g c = tt

pub returns-in_default-clause-nothing : goal.returns-in_default-clause-nothing
returns-in_default-clause-nothing g c = tt

pub returns-in_default-clause-cleared : goal.returns-in_default-clause-cleared
returns-in_default-clause-cleared g c = tt

-- ---- the pool

pub invariant_of-result : goal.invariant_of-result
invariant_of-result g c = record { table = ap (λ (p : PoolOf). p.table) c.of.ensures; directory = ap (λ (p : PoolOf). p.directory) c.of.ensures; shape = ap (λ (p : PoolOf). p.shape) c.of.ensures }

pub returns-clause-shape : goal.returns-clause-shape
returns-clause-shape g c = (c.in-Ok.ensures.pool, c.of.ensures)

pub overflow_cast-count : goal.overflow_cast-count
overflow_cast-count g c = let few = c.requires.shape.lanes.1 in omega (arith, few)
