use Rattle.poollaws.proofs.Counts.{last-law, counted-law, none-left-law}
use Rattle.poollaws.proofs.Clearing.{clearer-law}
use Rattle.poollaws.proofs.laws.close_law.Goals as goal

pub returns-clause-last : goal.returns-clause-last
returns-clause-last c = last-law

pub returns-clause-counted : goal.returns-clause-counted
returns-clause-counted c = counted-law

pub returns-clause-none_left : goal.returns-clause-none_left
returns-clause-none_left c = none-left-law

pub returns-clause-clearer : goal.returns-clause-clearer
returns-clause-clearer c = clearer-law
