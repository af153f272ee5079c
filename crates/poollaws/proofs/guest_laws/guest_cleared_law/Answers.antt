use Rattle.poollaws.proofs.Guests.{guest-none, guest-key, guest-once}
use Rattle.poollaws.proofs.guest_laws.guest_cleared_law.Goals as goal

pub returns-clause-none : goal.returns-clause-none
returns-clause-none c = guest-none

pub returns-clause-key : goal.returns-clause-key
returns-clause-key c = guest-key

pub returns-clause-once : goal.returns-clause-once
returns-clause-once c = guest-once
