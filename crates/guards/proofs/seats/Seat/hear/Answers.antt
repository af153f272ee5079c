-- What the lane saw that told begins what the lane sees after the hear.
use Rattle.shardpool.proofs.frame.Standing.{published-later}
use Rattle.poollaws.proofs.Clearing.{looked-none}
use Rattle.guards.proofs.Seating.{goes-on}
use Rattle.guards.proofs.seats.Seat.hear.Goals as goal

pub returns-clause-published : goal.returns-clause-published
returns-clause-published g c =
    let published = c.into_parts-key.ensures.published in (published.0, published-later _ _ published.0 _ _ c.hear.ensures.heard.0 published.1)

pub returns-clause-hears : goal.returns-clause-hears
returns-clause-hears g c = record { did = c.hear.ensures.goes; steps = c.hear.ensures.steps; looks = c.hear.ensures.looks }

pub returns-clause-keeps : goal.returns-clause-keeps
returns-clause-keeps g c = record { fillings = c.hear.ensures.fillings; held = c.hear.ensures.held }

pub returns-clause-goes : goal.returns-clause-goes
returns-clause-goes g c = goes-on c.hear.ensures.goes.goes

pub returns-clause-none_cleared : goal.returns-clause-none_cleared
returns-clause-none_cleared g c = looked-none c.args.self.now.lane c.hear.new.lane c.hear.ensures.goes
