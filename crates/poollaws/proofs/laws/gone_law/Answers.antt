use Rattle.poollaws.proofs.Ends.{gone-law, unfound-law, missed-law, marks-once}
use Rattle.poollaws.proofs.Passing.{passed-law}
use Rattle.poollaws.proofs.laws.gone_law.Goals as goal

pub returns-clause-gone : goal.returns-clause-gone
returns-clause-gone c = gone-law

pub returns-clause-unfound : goal.returns-clause-unfound
returns-clause-unfound c = unfound-law

pub returns-clause-missed : goal.returns-clause-missed
returns-clause-missed c = missed-law

pub returns-clause-marks : goal.returns-clause-marks
returns-clause-marks c = marks-once

pub returns-clause-passed : goal.returns-clause-passed
returns-clause-passed c = passed-law
