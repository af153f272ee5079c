-- A create keeps the lane the seat's, and gives the room that is known.
use Rattle.std.proofs.Common.{◌∙◌, sym, subst}
use Rattle.std.proofs.lemmas.Result.{IfOk-weaker}
use Rattle.shardpool.specs.Lanes.{Owns}
use Rattle.poollaws.proofs.Clearing.{create-none}
use Rattle.guards.proofs.Seating.{created-goes}
use Rattle.guards.proofs.seats.Seat.create.Goals as goal

pub create-requires : goal.create-requires
create-requires g c =
    let mine = c.args.self.now in
    record { owns = subst (λ pool. Owns pool mine.lane) (sym mine.pool_is) (mine.table, mine.shape, mine.directory) }

pub invariant_of-self : goal.invariant_of-self
invariant_of-self g c =
    let mine = c.args.self.now in
    let owns = subst (λ pool. Owns pool c.create.new.lane) mine.pool_is c.create.ensures.owns in
    record { pool_is = mine.pool_is; table = owns.0; directory = owns.2; shape = owns.1; unburdened = c.create.ensures.refs ∙ mine.unburdened }

pub returns-clause-made : goal.returns-clause-made
returns-clause-made g c = IfOk-weaker c.create.result _ _ (λ filling gives. gives.made) c.create.ensures.gives

pub returns-clause-empty : goal.returns-clause-empty
returns-clause-empty g c = IfOk-weaker c.create.result _ _ (λ filling gives. gives.empty) c.create.ensures.gives

pub returns-clause-room : goal.returns-clause-room
returns-clause-room g c =
    IfOk-weaker c.create.result _ _
    (λ filling gives last size knows next. c.room_kept_law.ensures.reused c.args.self.now.lane c.create.new.lane filling last size gives knows next.0 next.1) c.create.ensures.gives

pub returns-clause-keeps : goal.returns-clause-keeps
returns-clause-keeps g c = record { fillings = c.create.ensures.fillings; held = c.create.ensures.held }

pub returns-clause-apart : goal.returns-clause-apart
returns-clause-apart g c = c.create.ensures.apart

pub returns-clause-number : goal.returns-clause-number
returns-clause-number g c = (created-goes g.T.Clear.content g.T.Clear.room c.args.self.now.lane c.create.new.lane c.create.result c.create.ensures.gives c.create.ensures.none).0

pub returns-clause-goes : goal.returns-clause-goes
returns-clause-goes g c = (created-goes g.T.Clear.content g.T.Clear.room c.args.self.now.lane c.create.new.lane c.create.result c.create.ensures.gives c.create.ensures.none).1

pub returns-clause-none_cleared : goal.returns-clause-none_cleared
returns-clause-none_cleared g c =
    create-none g.T.Clear.content g.T.Clear.room c.args.self.now.pool.now c.args.self.now.lane c.create.new.lane c.create.result c.create.ensures
