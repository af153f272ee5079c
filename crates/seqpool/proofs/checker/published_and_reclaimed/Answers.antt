use Rattle.std.proofs.Common.{◌∙◌, ap, arith}
use Rattle.std.proofs.lemmas.List.{take_all}
use Rattle.std.specs.List.{count_by}
use Rattle.seqpool.specs.Checker.{is_publish, is_reclaim}
use Rattle.seqpool.proofs.checker.published_and_reclaimed.Goals as goal

pub returns-clause-published : goal.returns-clause-published
returns-clause-published c =
    c.loop-act.invariant.published ∙ ap (count_by is_publish) (take_all c.loop-act.act-index c.args.acts.now (omega arith))

pub returns-clause-reclaimed : goal.returns-clause-reclaimed
returns-clause-reclaimed c =
    c.loop-act.invariant.reclaimed ∙ ap (count_by is_reclaim) (take_all c.loop-act.act-index c.args.acts.now (omega arith))
