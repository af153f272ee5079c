use Rattle.steplaws.proofs.LinkLaws.{push-succeeds-law, push-fails-law, push-again-law}
use Rattle.steplaws.proofs.step_laws.push_law.Goals as goal

pub returns-clause-succeeds : goal.returns-clause-succeeds
returns-clause-succeeds c = push-succeeds-law

pub returns-clause-fails : goal.returns-clause-fails
returns-clause-fails c = push-fails-law

pub returns-clause-again : goal.returns-clause-again
returns-clause-again c = push-again-law
