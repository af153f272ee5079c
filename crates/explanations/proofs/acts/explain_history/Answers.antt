use Rattle.std.proofs.Common.{rules, inl, inr}
use Rattle.std.proofs.lemmas.Result.{IfOk-weaker}
use Rattle.explanations.proofs.acts.explain_history.Goals as goal

pub explain_illegal-requires-clause-illegal : goal.explain_illegal-requires-clause-illegal
explain_illegal-requires-clause-illegal c = c.check.ensures.illegal c.in-Err-Illegal.index c.in-Err-Illegal.fault (search rules)

pub returns-in-Ok-clause-is : goal.returns-in-Ok-clause-is
returns-in-Ok-clause-is c =
    inl (search rules, inr (record { shape = c.args.shape; history = c.args.acts.now; stands = c.requires; legal = c.in-Ok.ensures.legal }))

pub returns-in-Err-Illegal-clause-is : goal.returns-in-Err-Illegal-clause-is
returns-in-Err-Illegal-clause-is c = IfOk-weaker c.explain_illegal.result _ _ (λ text is. inr is) c.explain_illegal.ensures.is

pub returns-in-Err-Illegal-clause-safe : goal.returns-in-Err-Illegal-clause-safe
returns-in-Err-Illegal-clause-safe c = IfOk-weaker c.explain_illegal.result _ _ (λ text is. inr is) c.explain_illegal.ensures.safe
