use Rattle.traces.proofs.TurnLawsScripts.{script-law}
use Rattle.traces.proofs.turn_laws.script_law.Goals as goal

pub returns : goal.returns
returns c = script-law
