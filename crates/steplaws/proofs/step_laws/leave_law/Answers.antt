use Rattle.steplaws.proofs.Leaves.{release-law, undo-law}
use Rattle.steplaws.proofs.step_laws.leave_law.Goals as goal

pub returns-clause-release : goal.returns-clause-release
returns-clause-release c = release-law

pub returns-clause-undo : goal.returns-clause-undo
returns-clause-undo c = undo-law
