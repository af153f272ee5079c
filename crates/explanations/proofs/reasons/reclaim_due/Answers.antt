use Rattle.std.proofs.Common.{rules, ◌<◌, ℕ, sym, subst}
use Rattle.seqpool.specs.declared.act.Act.TheVariants.{Release}
use Rattle.seqpool.specs.declared.pool.SeqPool.{SeqPool}
use Rattle.seqpool.specs.Rows.{pool_in}
use Rattle.explanations.specs.Reasons.{IsRefused}
use Rattle.explanations.proofs.reasons.reclaim_due.Goals as goal

-- Neither the clear was allowed nor a release, which the pool was asked for behind it, as it was before.
pub returns : goal.returns
returns c =
    let no = c.in_ok-allows.ensures.no c.if-branch.false in
    let none = c.in_ok-holder.ensures.none (search rules) in (
      no.1,
      λ other low. subst (λ (pool : SeqPool). IsRefused pool.shape (pool_in pool) (Release other c.args.key)) no.0
          (none.1 other (subst (λ (n : ℕ). other < n) (sym c.requires) low)),
    )
