use Rattle.keybits.proofs.HomeLemmas.{function-law, empty-law}
use Rattle.keybits.proofs.home_laws.home_law.Goals as goal

pub returns-clause-function : goal.returns-clause-function
returns-clause-function c = function-law

pub returns-clause-empty : goal.returns-clause-empty
returns-clause-empty c = empty-law
