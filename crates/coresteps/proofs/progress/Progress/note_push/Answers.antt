-- Only the word of the stack changes on which a PUSH succeeded.
use Rattle.std.proofs.Common.{◌∙◌, refl, length-set}
use Rattle.coresteps.proofs.progress.Progress.note_push.Goals as goal

pub bounds-self-shard : goal.bounds-self-shard
bounds-self-shard c =
    let at = c.in-Push-Stack in c.requires.shard at.expected at.link at.shard at.lane-1 at.is-0 at.is-1

pub returns-then-step-expected-clause-others : goal.returns-then-step-expected-clause-others
returns-then-step-expected-clause-others c = refl

pub returns-then-step-expected-clause-count : goal.returns-then-step-expected-clause-count
returns-then-step-expected-clause-count c = length-set c.args.self.now.pushed c.in-Push-Stack.shard c.in-Push-Stack.link ∙ c.requires.count

pub returns-else-step-expected-clause-others : goal.returns-else-step-expected-clause-others
returns-else-step-expected-clause-others c = refl

pub returns-else-step-expected-clause-count : goal.returns-else-step-expected-clause-count
returns-else-step-expected-clause-count c = c.requires.count
