-- What the publish does for the filling that was given it does for the guard's.
use Rattle.std.proofs.Common.{◌≡◌, false, [], ◌∷◌, sym, ap, ◌∙◌, subst}
use Rattle.keybits.specs.Keys.{place_of}
use Rattle.seqpool.specs.declared.act.Act.TheVariants as acts
use Rattle.poolsteps.specs.Shares.{room_of}
use Rattle.steplaws.specs.Calls.Call.{Publishing}
use Rattle.shardpool.specs.Tokens.{FillingOf}
use Rattle.shardpool.specs.Lanes.{Made, Calls, Did}
use Rattle.shardpool.specs.Seen.{PublishedSince}
use Rattle.guards.proofs.filling.FillGuard.drop.Goals as goal

pub publish-requires-clause-owns : goal.publish-requires-clause-owns
publish-requires-clause-owns g c = c.requires.may.0

pub publish-requires-clause-made : goal.publish-requires-clause-made
publish-requires-clause-made g c = subst (λ (f : FillingOf g.row.T.Denot). Made c.args.self.lane.now f) (sym c.give.ensures) c.requires.may.1

pub returns-clause-owns : goal.returns-clause-owns
returns-clause-owns g c = c.publish.ensures.owns

pub returns-clause-called : goal.returns-clause-called
returns-clause-called g c =
    let old = c.args.self.lane.now.book in
    let new = c.publish.new.lane.book in
    subst (λ (f : FillingOf g.row.T.Denot). Calls c.args.self.pool.now.shape (Publishing f.key (g.T.Clear.content f.object) false) old new) c.give.ensures c.publish.ensures.called

pub returns-clause-publishes : goal.returns-clause-publishes
returns-clause-publishes g c =
    let lane = c.args.self.lane.now in
    subst (λ (f : FillingOf g.row.T.Denot). Did (acts.Publish lane.number f.key (g.T.Clear.content f.object) false ∷ []) lane c.publish.new.lane) c.give.ensures c.publish.ensures.publishes

pub returns-clause-published : goal.returns-clause-published
returns-clause-published g c =
    subst (λ (f : FillingOf g.row.T.Denot). PublishedSince f.key (g.T.Clear.content f.object) false c.args.self.lane.now c.publish.new.lane) c.give.ensures c.publish.ensures.published

pub returns-clause-seen : goal.returns-clause-seen
returns-clause-seen g c = c.publish.ensures.seen

pub returns-clause-holds : goal.returns-clause-holds
returns-clause-holds g c = c.publish.ensures.held

pub returns-clause-same : goal.returns-clause-same
returns-clause-same g c = c.publish.ensures.publishes.same

pub returns-clause-refs : goal.returns-clause-refs
returns-clause-refs g c = c.publish.ensures.refs

pub returns-clause-room : goal.returns-clause-room
returns-clause-room g c =
    let book = c.publish.new.lane.book in
    subst (λ (f : FillingOf g.row.T.Denot). room_of book.seen book.rooms (place_of f.key) ≡ g.T.Clear.room f.object) c.give.ensures c.publish.ensures.room

pub returns-clause-fillings : goal.returns-clause-fillings
returns-clause-fillings g c other differs made =
    c.publish.ensures.fillings other (λ same. differs (same ∙ ap (λ (f : FillingOf g.row.T.Denot). f.key) c.give.ensures)) made
