use Rattle.seqpool.specs.Rows.{pool_in}
use Rattle.explanations.specs.Reasons.{IsClearDue}
use Rattle.explanations.proofs.Dues.{due-if}
use Rattle.explanations.proofs.reasons.clear_due.Goals as goal

pub returns : goal.returns
returns c = due-if (IsClearDue c.args.pool.now.shape (pool_in c.args.pool.now) c.args.lane c.args.key c.args.reply) _ _ _ c.due_if.result c.due_if.ensures (λ refused. refused) (λ is. is)
