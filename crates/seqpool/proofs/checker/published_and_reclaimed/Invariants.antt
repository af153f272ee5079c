use Rattle.std.proofs.Common.{◌≡◌, ◌≤◌, take}
use Rattle.std.specs.List.{count_by}
use Rattle.seqpool.specs.Checker.{is_publish, is_reclaim}
use Rattle.seqpool.proofs.checker.published_and_reclaimed.Given as goal

-- the counts of the acts so far, of which there are as many
abbrev pub invariant-loop-act : goal.invariant-loop-act
invariant-loop-act l = record {
  published : l.published ≡ count_by is_publish (take l.act-index l.acts);
  reclaimed : l.reclaimed ≡ count_by is_reclaim (take l.act-index l.acts);
  few_published : l.published ≤ l.act-index;
  few_reclaimed : l.reclaimed ≤ l.act-index;
}
