-- Each lane so far was refused, and so is this one.
use Rattle.std.proofs.Common.{ℕ, ◌∙◌, sym, subst, arith}
use mathlib.Core.Logic.{dite}
use native.Mathlib.Decide.{ℕ_discrete}
use Rattle.seqpool.specs.declared.pool.SeqPool.{SeqPool}
use Rattle.seqpool.specs.declared.act.Act.TheVariants.{Release}
use Rattle.seqpool.specs.Rows.{pool_in}
use Rattle.explanations.specs.Reasons.{IsRefused}
use Rattle.explanations.proofs.reasons.holder_of.Goals as goal

pub loop-lane-preserved : goal.loop-lane-preserved
loop-lane-preserved c =
    let before = c.loop-lane.invariant in
    let no = c.in_ok-allows.ensures.no c.if-branch.false in
    let now = subst (λ (pool : SeqPool). IsRefused pool.shape (pool_in pool) (Release c.loop-lane.lane c.args.key)) before.same no.1 in
    record {
      same = no.0 ∙ before.same;
      refused = λ lane low. dite (ℕ_discrete lane c.loop-lane.lane)
          (λ same. subst (λ (n : ℕ). IsRefused c.args.pool.now.shape (pool_in c.args.pool.now) (Release n c.args.key)) (sym same) now)
          (λ other. before.refused lane (omega (arith, low, other)));
    }
