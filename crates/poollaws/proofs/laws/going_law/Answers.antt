use Rattle.poollaws.proofs.Ends.{stands-law, stays-published, stays-cleared}
use Rattle.poollaws.proofs.laws.going_law.Goals as goal

pub returns-clause-acts : goal.returns-clause-acts
returns-clause-acts c = stands-law

pub returns-clause-published : goal.returns-clause-published
returns-clause-published c = stays-published

pub returns-clause-cleared : goal.returns-clause-cleared
returns-clause-cleared c = stays-cleared
