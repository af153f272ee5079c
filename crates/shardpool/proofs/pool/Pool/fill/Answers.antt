-- The place is in nobody's hands, and the look moves nothing.
use Rattle.std.proofs.Common.{◌≡◌, ℕ, List, refl, sym, ap, ◌∙◌, subst}
use Rattle.keybits.specs.declared.shape.Shape.{Shape}
use Rattle.keybits.specs.Keys.{place_of}
use Rattle.keybits.proofs.KeyLemmas.{place_of-key_number}
use Rattle.keybits.proofs.ShapeLemmas.{place_bounds}
use Rattle.seqpool.specs.Pool.{pool_after}
use Rattle.poolsteps.specs.Views.{the_lane}
use Rattle.poolsteps.specs.Told.{Sees, MayPublish}
use Rattle.poolsteps.specs.Grids.{IsSpot}
use Rattle.poolsteps.specs.Layout.{slot_start}
use Rattle.poolsteps.specs.Spot.{Spot as CellSpot}
use Rattle.shardpool.specs.Tokens.{PoolOf, LaneOf, FillingOf}
use Rattle.shardpool.specs.Creates.{IsLoose, Fills}
use Rattle.shardpool.proofs.frame.LaneFrames.{passes-sees}
use Rattle.shardpool.proofs.frame.SeenHistories.{has-not, made-still, same-shape, same-directory, same-chain, still-idle, fits-sees}
use Rattle.shardpool.proofs.frame.Looks.{bare-sees, filled}
use Rattle.shardpool.proofs.pool.Pool.fill.Goals as goal

pub next_key-key-requires-clause-own : goal.next_key-key-requires-clause-own
next_key-key-requires-clause-own g c =
    let loose = subst (λ (lane : LaneOf). IsLoose g.T.Clear.content g.T.Clear.room lane c.args.spot.place c.args.whole.object) (sym c.lane.view_is) c.requires.loose in
    loose.filling.own ∙ c.lane.invariant.1.seat.number_is

pub next_key-key-requires-clause-unchained : goal.next_key-key-requires-clause-unchained
next_key-key-requires-clause-unchained g c =
    let chain : List ℕ = (the_lane c.lane.inside.hand.me.0).chain in
    let loose = subst (λ (lane : LaneOf). IsLoose g.T.Clear.content g.T.Clear.room lane c.args.spot.place c.args.whole.object) (sym c.lane.view_is) c.requires.loose in
    has-not c.args.spot.place chain loose.filling.unchained

pub invariant_of-lane : goal.invariant_of-lane
invariant_of-lane g c =
    let shape = same-shape c.lane.view_is c.requires.owns.1 c.self.view_is in
    let sees = c.next_key-key.ensures.sees in (
      sees.held ∙ c.lane.invariant.0,
      fits-sees (subst (λ (z : Shape). Sees z c.lane.inside.hand.me c.next_key-key.new.hand.me) shape sees) c.lane.invariant.1,
    )

pub returns-clause-fills : goal.returns-clause-fills
returns-clause-fills g c =
    let content = g.T.Clear.content in
    let room = g.T.Clear.room in
    let shape = same-shape c.lane.view_is c.requires.owns.1 c.self.view_is in
    let sees = subst (λ (z : Shape). Sees z c.lane.inside.hand.me c.next_key-key.new.hand.me) shape c.next_key-key.ensures.sees in
    let may = subst (λ (z : Shape). MayPublish z c.next_key-key.new.hand.me.0 c.next_key-key.result) shape c.next_key-key.ensures.may in
    let was : LaneOf = record {
      table = c.lane.inside.hand.table_id;
      directory = c.lane.inside.state.objects.directory;
      shape = c.lane.inside.state.shape;
      number = c.lane.inside.state.number;
      book = c.lane.inside.hand.me.0;
      free = c.lane.inside.state.free;
      pages = c.lane.inside.state.pages;
    } in
    let new : LaneOf = record was { table = c.next_key-key.new.hand.table_id; book = c.next_key-key.new.hand.me.0 } in
    let loose = subst (λ (lane : LaneOf). IsLoose content room lane c.args.spot.place c.args.whole.object) (sym c.lane.view_is) c.requires.loose in
    let seat = c.lane.invariant.1.seat in
    let small = (place_bounds was.shape seat.shape c.args.spot.place loose.filling.inside).number in
    let at : place_of c.next_key-key.result ≡ c.args.spot.place = ap place_of c.next_key-key.ensures.key
    ∙ place_of-key_number c.self.inside.grid.shape.tag c.args.spot.place (pool_after c.self.inside.grid.shape c.next_key-key.new.hand.me.0.seen c.args.spot.place).generation small in
    let spot : IsSpot c.self.inside.grid.shape c.args.spot c.args.spot.place = subst (λ (p : PoolOf). IsSpot p.shape c.args.spot c.args.spot.place) (sym c.self.view_is) c.requires.spot in
    subst (λ (lane : LaneOf). Fills lane new c.args.spot.place c.args.whole.object c.of.result) c.lane.view_is
    (filled content room was new c.args.spot.place c.args.whole.object c.of.result seat loose (bare-sees sees) (c.next_key-key.ensures.hand.0, refl, refl, refl) refl refl
    (ap (λ (filling : FillingOf g.row.T.Denot). filling.table) c.of.ensures ∙ c.next_key-key.ensures.hand.0)
    (ap (λ (filling : FillingOf g.row.T.Denot). filling.directory) c.of.ensures ∙ sym (same-directory c.lane.view_is c.requires.owns.2 c.self.view_is))
    (ap (λ (filling : FillingOf g.row.T.Denot). filling.start) c.of.ensures ∙ (spot.start ∙ ap (λ (y : Shape). slot_start y c.args.spot.place) shape))
    (ap (λ (filling : FillingOf g.row.T.Denot). place_of filling.key) c.of.ensures ∙ at)
    (ap (λ (filling : FillingOf g.row.T.Denot). filling.object) c.of.ensures)
    (subst (MayPublish was.shape new.book) (ap (λ (filling : FillingOf g.row.T.Denot). filling.key) (sym c.of.ensures)) may))

pub returns-clause-fillings : goal.returns-clause-fillings
returns-clause-fillings g c = λ filling made.
    let shape = same-shape c.lane.view_is c.requires.owns.1 c.self.view_is in
    let sees = subst (λ (z : Shape). Sees z c.lane.inside.hand.me c.next_key-key.new.hand.me) shape c.next_key-key.ensures.sees in
    let seat = c.lane.invariant.1.seat in
    made-still (passes-sees sees) seat (c.next_key-key.ensures.hand.0, refl, refl, refl) refl refl c.lane.view_is filling (still-idle sees seat.idle) (same-chain sees) made

pub of-requires : goal.of-requires
of-requires g c =
    let directory = ap (λ (p : PoolOf). p.directory) c.self.view_is in
    (ap (λ (spot : CellSpot). spot.directory) c.requires.at ∙ sym directory, ap (λ (spot : CellSpot). spot.index) c.requires.at ∙ sym c.requires.spot.start)
