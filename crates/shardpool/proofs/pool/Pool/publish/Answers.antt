use Rattle.std.proofs.Common.{◌≡◌, ℕ, false, List, [], ◌∷◌, refl, sym, ap, ◌∙◌, subst, arith}
use Rattle.keybits.specs.declared.shape.Shape.{Shape}
use Rattle.keybits.specs.Keys.{place_of}
use Rattle.poolsteps.specs.Shares.{room_of}
use Rattle.poolsteps.specs.Objects.{spot_at}
use Rattle.seqpool.specs.declared.act.Act.{Act}
use Rattle.seqpool.specs.declared.act.Act.TheVariants as acts
use Rattle.steplaws.specs.Calls.Call.{Publishing}
use Rattle.shardpool.specs.Tokens.{LaneOf, FillingOf}
use Rattle.shardpool.specs.LaneStates.{Fits}
use Rattle.shardpool.specs.Lanes.{Made, Did, Calls}
use Rattle.shardpool.proofs.calls.CallParts.{calls-more}
use Rattle.shardpool.proofs.calls.Publishes.{made-spot, published-did, published-held, published-others, published-alone}
use Rattle.shardpool.proofs.frame.LaneFacts.{lane_of}
use Rattle.shardpool.proofs.pool.Pool.publish.Given.{Over}
use Rattle.shardpool.proofs.calls.AfterCalls.{after-publish}
use Rattle.shardpool.proofs.pool.Pool.publish.Goals as goal

module _ (g : Over) (c : goal.After-publish g) where
  abbrev before : LaneOf
  before = lane_of c.lane.inside.hand.table_id c.lane.inside.hand.me.0 c.lane.inside.state

  -- the lane's shape is the pool's
  shape : c.lane.inside.state.shape ≡ c.self.inside.grid.shape
  shape = ap (λ l. l.shape) c.lane.view_is ∙ (c.requires.owns.1 ∙ sym (ap (λ p. p.shape) c.self.view_is))

  fits : Fits g.T.Clear.content g.T.Clear.room c.self.inside.grid.shape c.lane.inside.hand.me.0 c.lane.inside.state
  fits = subst (λ (y : Shape). Fits g.T.Clear.content g.T.Clear.room y c.lane.inside.hand.me.0 c.lane.inside.state) shape c.lane.invariant.1

  -- the filling by its parts
  abbrev filling : FillingOf g.row.T.Denot
  filling = record { table = c.args.filling.table; directory = c.args.filling.directory; key = c.spend-key.result.0; start = c.spend-key.result.1; object = c.spend-key.result.2.object }

  same : filling ≡ c.args.filling
  same = λ i. record { table = c.args.filling.table; directory = c.args.filling.directory; key = c.spend-key.ensures.0 i; start = c.spend-key.ensures.1 i; object = c.spend-key.ensures.3 i }

  was : Made before filling
  was = subst (λ (f : FillingOf g.row.T.Denot). Made before f) (sym same) (subst (λ (l : LaneOf). Made l c.args.filling) (sym c.lane.view_is) c.requires.made)

pub publish-requires-clause-at : goal.publish-requires-clause-at
publish-requires-clause-at g c =
    let spot = made-spot (record { place = c.place_of.result; start = c.spend-key.result.1 }) c.spend-key.result.0 c.requires.made (c.requires.owns.1 ∙ sym (ap (λ p. p.shape) c.self.view_is))
    c.spend-key.ensures.0 c.spend-key.ensures.1 c.place_of.ensures.place in
    let directory = c.requires.made.directory ∙ (c.requires.owns.2 ∙ sym (ap (λ p. p.directory) c.self.view_is)) in
    c.spend-key.ensures.2 ∙ (λ i. spot_at (directory i) ((sym c.spend-key.ensures.1 ∙ spot.start) i))

pub publish-requires-clause-spot : goal.publish-requires-clause-spot
publish-requires-clause-spot g c =
    made-spot (record { place = c.place_of.result; start = c.spend-key.result.1 }) c.spend-key.result.0 c.requires.made (c.requires.owns.1 ∙ sym (ap (λ p. p.shape) c.self.view_is))
    c.spend-key.ensures.0 c.spend-key.ensures.1 c.place_of.ensures.place

pub invariant_of-lane : goal.invariant_of-lane
invariant_of-lane g c =
    let s = c.lane.inside.state in
    let told = c.publish.ensures in
    let now = published-alone {count = s.references} s s c.lane.inside.hand.table_id (filling g c) (g.T.Clear.content c.spend-key.result.2.object) false (fits g c) told.called.did told.called.idle told.acts (was g c) refl refl refl refl in
    (told.called.did.held ∙ c.lane.invariant.0, subst (λ (y : Shape). Fits g.T.Clear.content g.T.Clear.room y c.publish.new.hand.me.0 s) (sym now.shape_is) now)

pub returns : goal.returns
returns g c =
    let z : Shape = c.self.inside.grid.shape in
    let s = c.lane.inside.state in
    let told = c.publish.ensures in
    let table = c.publish.new.hand.table_id in
    let now = c.publish.new.hand.me.0 in
    let content : List ℕ = g.T.Clear.content c.spend-key.result.2.object in
    let did = published-did {count = s.references} s s c.lane.inside.hand.table_id (filling g c) content false (fits g c) told.called.did told.called.idle told.acts (was g c) refl table told.hand.0 in
    let one : acts.Publish s.number c.spend-key.result.0 content false ≡ acts.Publish s.number c.args.filling.key (g.T.Clear.content c.args.filling.object) false
    = ap (λ (f : FillingOf g.row.T.Denot). acts.Publish s.number f.key (g.T.Clear.content f.object) false) (same g c) in
    after-publish {pool = c.args.self.now} {old = c.args.lane.now} {new = lane_of table now s} c.requires.owns {filling = c.args.filling} c.requires.made c.spend-key.result.0 c.spend-key.ensures.0
    (rw (← c.self.view_is, ← c.lane.view_is)
    (subst (λ (f : FillingOf g.row.T.Denot). Calls z (Publishing f.key (g.T.Clear.content f.object) false) c.lane.inside.hand.me.0 now) (same g c) (calls-more told.called (omega arith))))
    (rw (← c.lane.view_is) (subst (λ (x : Act). Did (x ∷ []) (before g c) (lane_of table now s)) one did))
    (ap (λ (key : ℕ). room_of now.seen now.rooms (place_of key)) (sym c.spend-key.ensures.0) ∙ (told.room ∙ ap g.T.Clear.room c.spend-key.ensures.3))
    (λ other differs is. published-others {count = s.references} s s c.lane.inside.hand.table_id (filling g c) content false (fits g c) told.called.did told.called.idle told.acts (was g c) refl
    table told.hand.0 other (λ e. differs (e ∙ c.spend-key.ensures.0)) (subst (λ (l : LaneOf). Made l other) (sym c.lane.view_is) is))
    (rw (← c.lane.view_is) (published-held {count = s.references} s s c.lane.inside.hand.table_id (filling g c) content false (fits g c) told.called.did told.called.idle told.acts (was g c) refl))
