-- The lane that was taken made the call.
use Rattle.std.proofs.Common.{rules, ◌≡◌, ◌∙◌, Ok, Err, true, false, refl, inl, inr, subst}
use Rattle.slotcell.specs.ByteBuf.{ByteBuf}
use Rattle.shardpool.specs.Tokens.{PoolOf}
use Rattle.shardpool.specs.AfterCalls.{AfterReleaseKey}
use Rattle.lanestore.specs.Visits.{lane_of}
use Rattle.poolffi.specs.declared.refusal.Refusal.TheVariants.{NoReference}
use Rattle.poolffi.specs.ByteCalls.{Releases}
use Rattle.poolffi.specs.Callers.{pool_of}
use Rattle.poolffi.proofs.Answering.{by-lane}
use Rattle.poolffi.proofs.caller.Caller.release.Goals as goal

pub returns-then-released : goal.returns-then-released
returns-then-released c =
    let old = c.args.self.now in let new = c.leave.new.self in
    let before = lane_of c.told-visit.result in let after = lane_of c.release-released.new.self in
    let pool : c.pool-2.result.now ≡ pool_of old = search rules in
    let given = rw c.if-released.true at c.release-released.ensures.releases in
    inl (by-lane (λ had left. (had.number ≡ c.args.lane) × Releases (pool_of old) c.args.key had left (Ok tt)) old new before after
    (c.leave.ensures.same.0 ∙ c.told-visit.ensures.same.0) (c.leave.ensures.same.1 ∙ c.told-visit.ensures.same.1)
    c.told-visit.ensures.owns c.told-visit.ensures.heard c.leave.ensures.told
    (search rules, subst (λ (p : PoolOf). AfterReleaseKey ByteBuf p c.args.key before after true) pool given))

pub returns-else-released : goal.returns-else-released
returns-else-released c =
    let old = c.args.self.now in let new = c.leave.new.self in
    let before = lane_of c.told-visit.result in let after = lane_of c.release-released.new.self in
    let pool : c.pool-2.result.now ≡ pool_of old = search rules in
    let missed = rw c.if-released.false at c.release-released.ensures.releases in
    inl (inr (by-lane (λ had left. (had.number ≡ c.args.lane) × Releases (pool_of old) c.args.key had left (Err NoReference)) old new before after
    (c.leave.ensures.same.0 ∙ c.told-visit.ensures.same.0) (c.leave.ensures.same.1 ∙ c.told-visit.ensures.same.1)
    c.told-visit.ensures.owns c.told-visit.ensures.heard c.leave.ensures.told
    (search rules, (refl, subst (λ (p : PoolOf). AfterReleaseKey ByteBuf p c.args.key before after false) pool missed))))
