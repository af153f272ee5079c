use Rattle.traces.proofs.TurnLawsWords.{first-step-law, next-step-law}
use Rattle.traces.proofs.turn_laws.words_law.Goals as goal

pub returns-clause-first : goal.returns-clause-first
returns-clause-first c = first-step-law

pub returns-clause-next : goal.returns-clause-next
returns-clause-next c = next-step-law
