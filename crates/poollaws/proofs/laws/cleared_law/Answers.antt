use Rattle.poollaws.proofs.Clearing.{none-law, key-cleared, once-law}
use Rattle.poollaws.proofs.laws.cleared_law.Goals as goal

pub returns-clause-none : goal.returns-clause-none
returns-clause-none g c = none-law g.T.Clear.content g.T.Clear.room

pub returns-clause-key : goal.returns-clause-key
returns-clause-key g c = key-cleared

pub returns-clause-once : goal.returns-clause-once
returns-clause-once g c = once-law
