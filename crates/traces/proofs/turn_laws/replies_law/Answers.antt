use Rattle.traces.proofs.TurnLawsReplies.{skip-law, published-law, read-law, found-law}
use Rattle.traces.proofs.turn_laws.replies_law.Goals as goal

pub returns-clause-skip : goal.returns-clause-skip
returns-clause-skip c = skip-law

pub returns-clause-published : goal.returns-clause-published
returns-clause-published c = published-law

pub returns-clause-read : goal.returns-clause-read
returns-clause-read c = read-law

pub returns-clause-found : goal.returns-clause-found
returns-clause-found c = found-law
