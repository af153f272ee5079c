-- A publish keeps the lane the seat's, and the lane knows the room of what it published.
use Rattle.std.proofs.Common.{◌∙◌, false, sym, subst, arith}
use Rattle.steplaws.specs.Calls.Call.{Publishing}
use Rattle.shardpool.specs.Tokens.{PoolOf}
use Rattle.shardpool.specs.Lanes.{Owns, Calls}
use Rattle.poollaws.proofs.Clearing.{publish-none}
use Rattle.poollaws.proofs.Kept.{first-room}
use Rattle.guards.proofs.Seating.{goes-on}
use Rattle.guards.proofs.seats.Seat.publish.Goals as goal

pub publish-key-requires-clause-owns : goal.publish-key-requires-clause-owns
publish-key-requires-clause-owns g c =
    let mine = c.args.self.now in subst (λ pool. Owns pool mine.lane) (sym mine.pool_is) (mine.table, mine.shape, mine.directory)

pub publish-key-requires-clause-made : goal.publish-key-requires-clause-made
publish-key-requires-clause-made g c = c.requires.made

pub invariant_of-self : goal.invariant_of-self
invariant_of-self g c =
    let mine = c.args.self.now in
    let owns = subst (λ pool. Owns pool c.publish-key.new.lane) mine.pool_is c.publish-key.ensures.owns in
    record { pool_is = mine.pool_is; table = owns.0; directory = owns.2; shape = owns.1; unburdened = c.publish-key.ensures.refs ∙ mine.unburdened }

pub returns-clause-published : goal.returns-clause-published
returns-clause-published g c = (c.publish-key.ensures.published.publish.position, c.publish-key.ensures.published.published)

pub returns-clause-called : goal.returns-clause-called
returns-clause-called g c =
    subst (λ (pool : PoolOf). Calls pool.shape (Publishing c.args.filling.key (g.T.Clear.content c.args.filling.object) false) c.args.self.now.lane.book c.publish-key.new.lane.book)
    c.args.self.now.pool_is c.publish-key.ensures.called

pub returns-clause-held : goal.returns-clause-held
returns-clause-held g c = c.publish-key.ensures.held

pub returns-clause-room : goal.returns-clause-room
returns-clause-room g c =
    let room = c.publish-key.ensures.room in
    first-room c.publish-key.new.lane c.args.filling.key (g.T.Clear.room c.args.filling.object) (g.T.Clear.content c.args.filling.object) (returns-clause-published g c) c.seen_law.ensures.rooms (omega (arith, room))

pub returns-clause-goes : goal.returns-clause-goes
returns-clause-goes g c = goes-on c.publish-key.ensures.publishes.goes

pub returns-clause-number : goal.returns-clause-number
returns-clause-number g c = c.publish-key.ensures.publishes.same.2

pub returns-clause-none_cleared : goal.returns-clause-none_cleared
returns-clause-none_cleared g c =
    publish-none g.T.Clear.content g.T.Clear.room c.args.self.now.pool.now c.args.filling false c.args.self.now.lane c.publish-key.new.lane c.publish-key.ensures.publishing
