use Rattle.traces.proofs.TurnLawsActs.{lane-acts-law}
use Rattle.traces.proofs.TurnLawsScripts.{acts-law}
use Rattle.traces.proofs.turn_laws.acts_law.Goals as goal

pub returns-clause-legal : goal.returns-clause-legal
returns-clause-legal c = acts-law

pub returns-clause-lanes : goal.returns-clause-lanes
returns-clause-lanes c = lane-acts-law
