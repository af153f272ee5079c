use Rattle.poollaws.proofs.Guests.{guests-last, guests-counted, guests-clearer}
use Rattle.poollaws.proofs.guest_laws.guests_close_law.Goals as goal

pub returns-clause-last : goal.returns-clause-last
returns-clause-last c = guests-last

pub returns-clause-counted : goal.returns-clause-counted
returns-clause-counted c = guests-counted

pub returns-clause-clearer : goal.returns-clause-clearer
returns-clause-clearer c = guests-clearer
