use Rattle.std.proofs.Common.{sym}
use Rattle.schedules.proofs.Ends.{end-gone, end-stays}
use Rattle.schedules.proofs.listed.without_end.Goals as goal

pub returns-in-Some : goal.returns-in-Some
returns-in-Some c = sym (end-gone _ _ _ c.in-Some.ensures.cases.0 c.if-last-eq10.true)

pub returns-in_default : goal.returns-in_default
returns-in_default c = sym (end-stays _ _ _ c.in-Some.ensures.cases.0 c.if-last-eq10.false)
