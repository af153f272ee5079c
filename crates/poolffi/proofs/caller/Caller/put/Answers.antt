-- The lane that was taken made the call.
use Rattle.std.proofs.Common.{rules, ◌≡◌, ◌∙◌, subst}
use Rattle.shardpool.specs.Tokens.{PoolOf}
use Rattle.lanestore.specs.Visits.{lane_of}
use Rattle.poolffi.specs.ByteCalls.{Puts}
use Rattle.poolffi.specs.Callers.{pool_of}
use Rattle.poolffi.proofs.Answering.{by-any, by-lane}
use Rattle.poolffi.proofs.caller.Caller.put.Goals as goal

pub returns : goal.returns
returns c =
    let old = c.args.self.now in let new = c.leave.new.self in let before = lane_of c.in-Some.visit in let after = lane_of c.put-answer.new.visit in
    let pool : c.pool.result.now ≡ pool_of old = search rules in
    let made = subst (λ (p : PoolOf). Puts p c.args.bytes.now before after c.put-answer.result) pool c.put-answer.ensures.puts in
    by-any (Puts (pool_of old) c.args.bytes.now) old new c.put-answer.result
    (by-lane (λ had left. Puts (pool_of old) c.args.bytes.now had left c.put-answer.result) old new before after
    (c.leave.ensures.same.0 ∙ c.visit_any.ensures.same.0) (c.leave.ensures.same.1 ∙ c.visit_any.ensures.same.1)
    c.in-Some.ensures.some.0 c.in-Some.ensures.some.1 c.leave.ensures.told made)
