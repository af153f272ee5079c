use Rattle.steplaws.proofs.Enters.{get-hits-law, get-misses-law, clear-hits-law, clear-misses-law}
use Rattle.steplaws.proofs.step_laws.enter_law.Goals as goal

pub returns-clause-get_hits : goal.returns-clause-get_hits
returns-clause-get_hits c = get-hits-law

pub returns-clause-get_misses : goal.returns-clause-get_misses
returns-clause-get_misses c = get-misses-law

pub returns-clause-clear_hits : goal.returns-clause-clear_hits
returns-clause-clear_hits c = clear-hits-law

pub returns-clause-clear_misses : goal.returns-clause-clear_misses
returns-clause-clear_misses c = clear-misses-law
