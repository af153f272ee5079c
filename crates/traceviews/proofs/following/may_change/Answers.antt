use Rattle.std.proofs.Common.{◌≡◌, ◌⊎◌, inl, inr, ℕ, refl, arith}
use Rattle.traceviews.specs.WordSteps.{MayLeave}
use Rattle.traceviews.specs.declared.line.StepName.{StepName}
use Rattle.traceviews.specs.declared.line.StepName.TheVariants as names
use Rattle.traceviews.proofs.following.may_change.Goals as goal

-- a LINK of what it leaves, and a PUSH that expects what it finds
link : (last before after : ℕ) → MayLeave last names.Link before after
link last before after = (after, refl)

push : (last before after : ℕ) → MayLeave last names.Push before after
push last before after = (before, after, grind arith)

free : (last : ℕ) (name : StepName) (before after : ℕ) → (name ≡ names.Link) ⊎ (name ≡ names.Push) → MayLeave last name before after
free last name before after (inl is) = rw is (link last before after)
free last name before after (inr is) = rw is (push last before after)

pub returns-in-Leave : goal.returns-in-Leave
returns-in-Leave c = rw c.in-Leave.is (c.may_leave.ensures c.args.last)

pub returns-in-Publish : goal.returns-in-Publish
returns-in-Publish c = rw c.in-Publish.is (c.may_publish.ensures c.args.last)

pub returns-in-Mark : goal.returns-in-Mark
returns-in-Mark c = rw c.in-Mark.is (c.may_mark.ensures c.args.last)

pub returns-in-Link : goal.returns-in-Link
returns-in-Link c = ((λ _. free c.args.last c.args.name c.args.before c.args.after c.in-Link.is), (λ _. refl))
