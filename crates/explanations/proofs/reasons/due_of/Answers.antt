use Rattle.std.proofs.Common.{rules, ◌≡◌, IfOk, subst}
use Rattle.std.proofs.lemmas.Result.{IfOk-weaker}
use Rattle.seqpool.specs.declared.act.Act.{Act}
use Rattle.seqpool.specs.declared.act.Act.TheVariants.{Reclaim}
use Rattle.seqpool.specs.Rows.{pool_in}
use Rattle.explanations.specs.Reasons.{IsDue}
use Rattle.explanations.proofs.reasons.due_of.Goals as goal

pub returns-in-Reclaim : goal.returns-in-Reclaim
returns-in-Reclaim c =
    let is : Reclaim c.in-Reclaim.lane c.in-Reclaim.key ≡ c.args.act.now = search rules in
    subst (λ (act : Act). IfOk c.reclaim_due.result (IsDue c.args.pool.now.shape c.args.history.now (pool_in c.args.pool.now) act)) is
    (IfOk-weaker c.reclaim_due.result _ _ (λ due due_is. due_is) c.reclaim_due.ensures)
