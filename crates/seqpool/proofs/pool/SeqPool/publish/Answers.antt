use Rattle.std.proofs.Common.{rules, ◌≢◌, Err, refl, sym, ap}
use Rattle.seqpool.specs.declared.act.Act.{Act}
use Rattle.seqpool.specs.declared.act.Act.TheVariants.{Publish}
use Rattle.seqpool.specs.declared.fault.ApplyFault.{ApplyFault}
use Rattle.seqpool.specs.declared.fault.ApplyFault.TheVariants.{NotWithLane, WrongGeneration, WrongReply, NotHeld, StillHeld, NotMarked, NotHome, Memory}
use Rattle.seqpool.specs.declared.pool.SeqPool.{SeqPool}
use Rattle.seqpool.specs.Pool.{Spot}
use Rattle.seqpool.specs.Refusals.{Wrong}
use Rattle.seqpool.specs.Rows.{pool_in, phase_of, Answers}
use Rattle.seqpool.proofs.Acts.{publishes}
use Rattle.seqpool.proofs.pool.SeqPool.publish.Goals as goal

-- an act that is refused, and not for want of memory, is answered so
refuses : (pool : SeqPool) (act : Act) (fault : ApplyFault) → fault ≢ Memory → Wrong pool.shape (pool_in pool) act fault → Answers pool act (Err fault) pool
refuses pool act NotWithLane other wrong = (refl, wrong)
refuses pool act WrongGeneration other wrong = (refl, wrong)
refuses pool act WrongReply other wrong = (refl, wrong)
refuses pool act NotHeld other wrong = (refl, wrong)
refuses pool act StillHeld other wrong = (refl, wrong)
refuses pool act NotMarked other wrong = (refl, wrong)
refuses pool act NotHome other wrong = (refl, wrong)
refuses pool act Memory other wrong = absurd (other refl)

pub returns-in-Err : goal.returns-in-Err
returns-in-Err c =
    let wrong = (c.in-Err.ensures {u = tt}).err c.args.content.now c.args.with_ref in
    refuses c.args.self.now (Publish c.args.lane c.args.key c.args.content.now c.args.with_ref) c.in-Err.fault wrong.0 wrong.1

pub returns : goal.returns
returns c =
    let filled = (c.in-Ok.ensures {u = tt}).ok in
    let made = publishes c.args.self.now.shape (pool_in c.args.self.now) (pool_in c.put.new.self) c.args.lane c.args.key c.in-Ok.place c.row.result.now.generation
    c.args.content.now c.args.with_ref (phase_of c.in_ok-standing.standing) filled.0.0 filled.0.2 filled.1 (ap (λ (s : Spot). s.generation) (sym c.row.ensures)) (search rules) c.put.ensures.pool in
    (made.0, made.1, c.put.ensures.shape)
