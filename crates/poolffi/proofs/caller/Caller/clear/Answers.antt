-- The lane that was taken made the call.
use Rattle.std.proofs.Common.{rules, ◌≡◌, ◌∙◌, Ok, Err, true, false, refl, inr, subst}
use Rattle.slotcell.specs.ByteBuf.{ByteBuf}
use Rattle.shardpool.specs.Tokens.{PoolOf}
use Rattle.shardpool.specs.AfterCalls.{AfterClear}
use Rattle.lanestore.specs.Visits.{lane_of}
use Rattle.poolffi.specs.declared.refusal.Refusal.TheVariants.{Gone}
use Rattle.poolffi.specs.ByteCalls.{Clears}
use Rattle.poolffi.specs.Callers.{pool_of}
use Rattle.poolffi.proofs.Answering.{by-lane}
use Rattle.poolffi.proofs.caller.Caller.clear.Goals as goal

pub returns-then-cleared : goal.returns-then-cleared
returns-then-cleared c =
    let old = c.args.self.now in let new = c.leave.new.self in
    let before = lane_of c.in-Some.visit in let after = lane_of c.clear-cleared.new.self in
    let pool : c.pool.result.now ≡ pool_of old = search rules in
    let cleared = rw c.if-cleared.true at c.clear-cleared.ensures.clears in
    by-lane (λ had left. Clears (pool_of old) c.args.key had left (Ok tt)) old new before after
    (c.leave.ensures.same.0 ∙ c.visit_any.ensures.same.0) (c.leave.ensures.same.1 ∙ c.visit_any.ensures.same.1)
    c.in-Some.ensures.some.0 c.in-Some.ensures.some.1 c.leave.ensures.told
    (subst (λ (p : PoolOf). AfterClear ByteBuf p c.args.key before after true) pool cleared)

pub returns-else-cleared : goal.returns-else-cleared
returns-else-cleared c =
    let old = c.args.self.now in let new = c.leave.new.self in
    let before = lane_of c.in-Some.visit in let after = lane_of c.clear-cleared.new.self in
    let pool : c.pool.result.now ≡ pool_of old = search rules in
    let missed = rw c.if-cleared.false at c.clear-cleared.ensures.clears in
    inr (by-lane (λ had left. Clears (pool_of old) c.args.key had left (Err Gone)) old new before after
    (c.leave.ensures.same.0 ∙ c.visit_any.ensures.same.0) (c.leave.ensures.same.1 ∙ c.visit_any.ensures.same.1)
    c.in-Some.ensures.some.0 c.in-Some.ensures.some.1 c.leave.ensures.told
    (refl, subst (λ (p : PoolOf). AfterClear ByteBuf p c.args.key before after false) pool missed))
