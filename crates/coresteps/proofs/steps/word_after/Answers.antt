-- The value after a step is what its kind makes of the one before it.
use Rattle.std.proofs.Common.{sym, subst, refl}
use Rattle.keybits.specs.Steps.{Changes}
use Rattle.keybits.specs.declared.step.Kind.{Kind}
use Rattle.steplaws.specs.StepLaws.{CountFits}
use Rattle.coresteps.proofs.steps.word_after.Goals as goal

pub entered-requires : goal.entered-requires
entered-requires c = subst (λ (k : Kind). CountFits k c.args.before) c.in-Enter.is c.requires.room

pub left-requires : goal.left-requires
left-requires c = (subst (λ (k : Kind). Changes c.args.last_generation k c.args.before c.requires.changes.0) c.in-Leave.is c.requires.changes.1).0

pub published-requires-clause-idle : goal.published-requires-clause-idle
published-requires-clause-idle c = (subst (λ (k : Kind). Changes c.args.last_generation k c.args.before c.requires.changes.0) c.in-Publish.is c.requires.changes.1).0

pub published-requires-clause-count : goal.published-requires-clause-count
published-requires-clause-count c = λ _. subst (λ (k : Kind). CountFits k c.args.before) c.in-Publish.is c.requires.room

pub marked-requires-clause-open : goal.marked-requires-clause-open
marked-requires-clause-open c = (subst (λ (k : Kind). Changes c.args.last_generation k c.args.before c.requires.changes.0) c.in-Mark.is c.requires.changes.1).0

pub marked-requires-clause-count : goal.marked-requires-clause-count
marked-requires-clause-count c = (subst (λ (k : Kind). Changes c.args.last_generation k c.args.before c.requires.changes.0) c.in-Mark.is c.requires.changes.1).1

pub returns-in-Enter : goal.returns-in-Enter
returns-in-Enter c = subst (λ (k : Kind). Changes c.args.last_generation k c.args.before c.entered.result) (sym c.in-Enter.is) (c.entered.ensures.step c.args.last_generation)

pub returns-in-Leave : goal.returns-in-Leave
returns-in-Leave c = subst (λ (k : Kind). Changes c.args.last_generation k c.args.before c.left.result) (sym c.in-Leave.is) (c.left.ensures.step c.args.last_generation)

pub returns-in-Publish : goal.returns-in-Publish
returns-in-Publish c = subst (λ (k : Kind). Changes c.args.last_generation k c.args.before c.published.result) (sym c.in-Publish.is) (c.published.ensures.step c.args.last_generation)

pub returns-in-Mark : goal.returns-in-Mark
returns-in-Mark c = subst (λ (k : Kind). Changes c.args.last_generation k c.args.before c.marked.result) (sym c.in-Mark.is) (c.marked.ensures.step c.args.last_generation)

pub returns-in-Link : goal.returns-in-Link
returns-in-Link c = subst (λ (k : Kind). Changes c.args.last_generation k c.args.before c.in-Link.expected) (sym c.in-Link.is) refl

pub returns-in-Take : goal.returns-in-Take
returns-in-Take c = subst (λ (k : Kind). Changes c.args.last_generation k c.args.before 0) (sym c.in-Take.is) refl

pub returns-in-Follow : goal.returns-in-Follow
returns-in-Follow c = subst (λ (k : Kind). Changes c.args.last_generation k c.args.before c.args.before) (sym c.in-Follow.is) refl
