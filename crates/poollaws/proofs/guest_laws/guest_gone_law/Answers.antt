use Rattle.poollaws.proofs.Guests.{guest-missed, guest-marks-once}
use Rattle.poollaws.proofs.Passing.{guest-passed, passed-gone}
use Rattle.poollaws.proofs.guest_laws.guest_gone_law.Goals as goal

pub returns-clause-missed : goal.returns-clause-missed
returns-clause-missed c = guest-missed

pub returns-clause-marks : goal.returns-clause-marks
returns-clause-marks c = guest-marks-once

pub returns-clause-passed : goal.returns-clause-passed
returns-clause-passed c = guest-passed

pub returns-clause-cleared : goal.returns-clause-cleared
returns-clause-cleared c = passed-gone
