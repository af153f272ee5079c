use Rattle.std.proofs.Common.{◌≡◌, ap, refl, Result, Err}
use Rattle.seqpool.specs.declared.fault.CheckFault.{CheckFault}
use Rattle.seqpool.specs.declared.fault.CheckFault.TheVariants.{Illegal}
use Rattle.seqpool.specs.declared.pool.SeqPool.{SeqPool}
use Rattle.seqpool.specs.declared.summary.Group.TheVariants as groups
use Rattle.seqpool.specs.Rows.{pool_in}
use Rattle.seqpool.proofs.HistoryLaws.{has-laws}
use Rattle.seqpool.proofs.GroupCounts.{count-at}
use Rattle.seqpool.proofs.checker.check.Goals as goal

pub returns-clause-laws : goal.returns-clause-laws
returns-clause-laws c = has-laws c.args.shape c.args.acts.now (c.in-Ok.ensures {u = tt}).legal

pub returns-in-Err-clause-illegal : goal.returns-in-Err-clause-illegal
returns-in-Err-clause-illegal c i fault is =
    let same : c.in-Err.fault ≡ Illegal i fault = cc is in
    (c.in-Err.ensures {u = tt}).illegal i fault (ap (λ (f : CheckFault). let r : Result SeqPool CheckFault = Err f in r) same)

pub returns-clause-counts : goal.returns-clause-counts
returns-clause-counts c =
    let found = c.in-Ok.ensures {u = tt} in
    let group = count-at c.args.shape c.in-Ok.pool.shape (pool_in c.in-Ok.pool) c.args.acts.now found.shape found.pool in
    record {
      acts = refl;
      published = c.published_and_reclaimed-published.ensures.published;
      reclaimed = c.published_and_reclaimed-published.ensures.reclaimed;
      present = group groups.Present c.count.result c.count.ensures;
      marked = group groups.Marked c.count-2.result c.count-2.ensures;
      home = group groups.Home c.count-3.result c.count-3.ensures;
      retired = group groups.Retired c.count-4.result c.count-4.ensures;
    }
