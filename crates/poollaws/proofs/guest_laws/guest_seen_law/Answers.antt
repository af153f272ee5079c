use Rattle.poollaws.proofs.Guests.{visited-law, found-behind}
use Rattle.poollaws.proofs.guest_laws.guest_seen_law.Goals as goal

pub returns-clause-visited : goal.returns-clause-visited
returns-clause-visited c = visited-law

pub returns-clause-found : goal.returns-clause-found
returns-clause-found c = found-behind
