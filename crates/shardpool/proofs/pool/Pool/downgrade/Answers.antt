use Rattle.std.proofs.Common.{◌≡◌, ◌<◌, true, List, [], ◌∷◌, ℕ, length, slice_set, Some, refl, sym, ap, ◌∙◌, subst, arith}
use Rattle.keybits.specs.declared.shape.Shape.{Shape}
use Rattle.poolsteps.specs.Shares.{room_of}
use Rattle.poolsteps.specs.Objects.{spot_at}
use Rattle.poolsteps.specs.Layout.{slot_start, spots_at}
use Rattle.keybits.specs.Keys.{place_of, generation_of}
use Rattle.seqpool.specs.declared.act.Act.{Act}
use Rattle.seqpool.specs.declared.act.Act.TheVariants as acts
use Rattle.steplaws.specs.Calls.Call.{Publishing}
use Rattle.shardpool.specs.HeldKeys.{HeldKey}
use Rattle.shardpool.specs.Tokens.{LaneOf, FillingOf}
use Rattle.shardpool.specs.LaneStates.{Fits}
use Rattle.shardpool.specs.Lanes.{Made, Did, Calls}
use Rattle.shardpool.proofs.calls.CallParts.{calls-more}
use Rattle.shardpool.proofs.references.RowChanges.{rows-low}
use Rattle.shardpool.proofs.calls.Publishes.{made-spot, published-did, published-held, published-one, published-others, published-held-with}
use Rattle.shardpool.proofs.frame.SeenHistories.{same-directory}
use Rattle.shardpool.proofs.frame.LaneFacts.{lane_of}
use Rattle.shardpool.proofs.pool.Pool.downgrade.Given.{Over}
use Rattle.shardpool.proofs.calls.AfterCalls.{after-downgrade}
use Rattle.shardpool.proofs.pool.Pool.downgrade.Goals as goal

module _ (g : Over) (c : goal.After-to g) where
  abbrev before : LaneOf
  before = lane_of c.lane.inside.hand.table_id c.lane.inside.hand.me.0 c.lane.inside.state

  -- the lane's shape is the pool's
  shape : c.lane.inside.state.shape ≡ c.self.inside.grid.shape
  shape = ap (λ l. l.shape) c.lane.view_is ∙ (c.requires.owns.1 ∙ sym (ap (λ p. p.shape) c.self.view_is))

  fits : Fits g.T.Clear.content g.T.Clear.room c.self.inside.grid.shape c.lane.inside.hand.me.0 c.lane.inside.state
  fits = subst (λ (y : Shape). Fits g.T.Clear.content g.T.Clear.room y c.lane.inside.hand.me.0 c.lane.inside.state) shape c.lane.invariant.1

  -- the filling by its parts
  abbrev filling : FillingOf g.row.T.Denot
  filling = record { table = c.args.filling.table; directory = c.args.filling.directory; key = c.spend-key.result.0; start = c.spend-key.result.1; object = c.spend-key.result.2.object }

  same : filling ≡ c.args.filling
  same = λ i. record { table = c.args.filling.table; directory = c.args.filling.directory; key = c.spend-key.ensures.0 i; start = c.spend-key.ensures.1 i; object = c.spend-key.ensures.3 i }

  was : Made before filling
  was = subst (λ (f : FillingOf g.row.T.Denot). Made before f) (sym same) (subst (λ (l : LaneOf). Made l c.args.filling) (sym c.lane.view_is) c.requires.made)

pub downgrade-share-requires-clause-at : goal.downgrade-share-requires-clause-at
downgrade-share-requires-clause-at g c =
    let spot = made-spot (record { place = c.place_of.result; start = c.spend-key.result.1 }) c.spend-key.result.0 c.requires.made (c.requires.owns.1 ∙ sym (ap (λ p. p.shape) c.self.view_is))
    c.spend-key.ensures.0 c.spend-key.ensures.1 c.place_of.ensures.place in
    let directory = c.requires.made.directory ∙ (c.requires.owns.2 ∙ sym (ap (λ p. p.directory) c.self.view_is)) in
    c.spend-key.ensures.2 ∙ (λ i. spot_at (directory i) ((sym c.spend-key.ensures.1 ∙ spot.start) i))

pub downgrade-share-requires-clause-spot : goal.downgrade-share-requires-clause-spot
downgrade-share-requires-clause-spot g c =
    made-spot (record { place = c.place_of.result; start = c.spend-key.result.1 }) c.spend-key.result.0 c.requires.made (c.requires.owns.1 ∙ sym (ap (λ p. p.shape) c.self.view_is))
    c.spend-key.ensures.0 c.spend-key.ensures.1 c.place_of.ensures.place

pub add_first_reference-requires-clause-at : goal.add_first_reference-requires-clause-at
add_first_reference-requires-clause-at g c =
    let s = c.lane.inside.state in
    let shape : s.shape ≡ c.self.inside.grid.shape = ap (λ l. l.shape) c.lane.view_is ∙ (c.requires.owns.1 ∙ sym (ap (λ p. p.shape) c.self.view_is)) in
    let fits = subst (λ (y : Shape). Fits g.T.Clear.content g.T.Clear.room y c.lane.inside.hand.me.0 s) shape c.lane.invariant.1 in
    let spot = made-spot (record { place = c.place_of.result; start = c.spend-key.result.1 }) c.spend-key.result.0 c.requires.made (c.requires.owns.1 ∙ sym (ap (λ p. p.shape) c.self.view_is))
    c.spend-key.ensures.0 c.spend-key.ensures.1 c.place_of.ensures.place in
    subst (λ (n : ℕ). n < length s.rows.items) (sym spot.start) (rows-low (place_of c.spend-key.result.0) fits.rows spot.inside)

pub invariant_of-lane : goal.invariant_of-lane
invariant_of-lane g c =
    let z : Shape = c.self.inside.grid.shape in
    let s = c.lane.inside.state in
    let told = c.downgrade-share.ensures in
    let share = c.downgrade-share.result in
    let row : HeldKey g.row.T.Denot = record { generation = generation_of c.spend-key.result.0; count = 1; share = Some share } in
    let at : c.spend-key.result.1 ≡ slot_start z (place_of c.spend-key.result.0)
    = (made-spot (record { place = c.place_of.result; start = c.spend-key.result.1 }) c.spend-key.result.0 c.requires.made (c.requires.owns.1 ∙ sym (ap (λ p. p.shape) c.self.view_is))
    c.spend-key.ensures.0 c.spend-key.ensures.1 c.place_of.ensures.place).start in
    let now = published-held-with s c.add_first_reference.new.state c.lane.inside.hand.table_id (filling g c) (g.T.Clear.content c.spend-key.result.2.object) true (fits g c) told.called.did told.called.idle told.acts (was g c)
    c.add_first_reference.ensures.rest share (told.share.3 ∙ λ i. spots_at (sym (same-directory c.lane.view_is c.requires.owns.2 c.self.view_is) i) z (place_of c.spend-key.result.0)) refl told.share.0 told.share.1 told.share.2 told.slot told.cell
    (c.add_first_reference.ensures.rows ∙ (λ i. slice_set s.rows.items (at i) row))
    (ap (λ x. x.references) c.add_first_reference.ensures.rest) in
    (told.called.did.held ∙ c.lane.invariant.0, subst (λ (y : Shape). Fits g.T.Clear.content g.T.Clear.room y c.downgrade-share.new.hand.me.0 c.add_first_reference.new.state) (sym now.shape_is) now)

pub returns : goal.returns
returns g c =
    let z : Shape = c.self.inside.grid.shape in
    let s = c.lane.inside.state in
    let n = c.add_first_reference.new.state in
    let rest = c.add_first_reference.ensures.rest in
    let told = c.downgrade-share.ensures in
    let table = c.downgrade-share.new.hand.table_id in
    let now = c.downgrade-share.new.hand.me.0 in
    let content : List ℕ = g.T.Clear.content c.spend-key.result.2.object in
    let did = published-did s n c.lane.inside.hand.table_id (filling g c) content true (fits g c) told.called.did told.called.idle told.acts (was g c) rest table told.hand.0 in
    let one : acts.Publish s.number c.spend-key.result.0 content true ≡ acts.Publish s.number c.args.filling.key (g.T.Clear.content c.args.filling.object) true
    = ap (λ (f : FillingOf g.row.T.Denot). acts.Publish s.number f.key (g.T.Clear.content f.object) true) (same g c) in
    let has = published-one s n c.lane.inside.hand.table_id (filling g c) content true (fits g c) told.called.did told.called.idle told.acts (was g c) rest refl in
    after-downgrade {pool = c.args.self.now} {old = c.args.lane.now} {new = lane_of table now n} c.requires.owns {filling = c.args.filling} c.requires.made
    c.to.result (c.to.ensures ∙ c.spend-key.ensures.0, rw (← c.spend-key.ensures.0) (omega (arith, has)))
    (rw (← c.self.view_is, ← c.lane.view_is)
    (subst (λ (f : FillingOf g.row.T.Denot). Calls z (Publishing f.key (g.T.Clear.content f.object) true) c.lane.inside.hand.me.0 now) (same g c) (calls-more told.called (omega arith))))
    (rw (← c.lane.view_is) (subst (λ (x : Act). Did (x ∷ []) (before g c) (lane_of table now n)) one did))
    (ap (λ (key : ℕ). room_of now.seen now.rooms (place_of key)) (sym c.spend-key.ensures.0) ∙ (told.room ∙ ap g.T.Clear.room c.spend-key.ensures.3))
    (λ other differs is. published-others s n c.lane.inside.hand.table_id (filling g c) content true (fits g c) told.called.did told.called.idle told.acts (was g c) rest
    table told.hand.0 other (λ e. differs (e ∙ c.spend-key.ensures.0)) (subst (λ (l : LaneOf). Made l other) (sym c.lane.view_is) is))
    (rw (← c.lane.view_is) (published-held s n c.lane.inside.hand.table_id (filling g c) content true (fits g c) told.called.did told.called.idle told.acts (was g c) rest))
