-- What a lane that dropped a filling has: what a publish and a clear leave.
use Rattle.std.proofs.Common.{◌≡◌, refl, sym, ap, ◌∙◌, subst}
use Rattle.poolsteps.specs.Objects.{spot_at}
use Rattle.shardpool.specs.Tokens.{LaneOf, FillingOf}
use Rattle.shardpool.specs.Lanes.{Owns}
use Rattle.shardpool.specs.Discards.{AfterDiscard}
use Rattle.shardpool.proofs.calls.Ends.{fits-beside, keeper}
use Rattle.shardpool.proofs.calls.Halts.{fits-own}
use Rattle.shardpool.proofs.calls.Discards.{IsOurs, ours, our-key, our-slots, discard-away, discard-fits, discard-left}
use Rattle.shardpool.proofs.frame.LaneFacts.{lane_of}
use Rattle.shardpool.proofs.frame.SeenHistories.{same-directory}
use Rattle.shardpool.proofs.pool.Pool.discard.Goals as goal

pub discard_and_keep-requires : goal.discard_and_keep-requires
discard_and_keep-requires g c =
    let filling : FillingOf g.row.T.Denot = record { table = c.args.filling.table; directory = c.args.filling.directory; key = c.spend-key.result.0; start = c.spend-key.result.1; object = c.spend-key.result.2.object } in
    let same : filling ≡ c.args.filling = λ i. record { table = c.args.filling.table; directory = c.args.filling.directory; key = c.spend-key.ensures.0 i; start = c.spend-key.ensures.1 i; object = c.spend-key.ensures.3 i } in
    let mine : IsOurs g.T.Clear.content g.T.Clear.room c.self.inside.grid.shape c.lane.inside.hand.table_id c.lane.inside.hand.me.0 c.lane.inside.state filling
    = ours c.lane.view_is c.requires.owns.1 c.self.view_is c.lane.invariant.1 same c.requires.made in
    let directory = c.requires.made.directory ∙ (c.requires.owns.2 ∙ sym (ap (λ p. p.directory) c.self.view_is)) in
    record {
      call = record {
        keeps = record {
          hand = (ap (λ l. l.table) c.lane.view_is ∙ (c.requires.owns.0 ∙ sym (ap (λ p. p.table) c.self.view_is)), mine.fits.seat.one);
          bare = c.lane.invariant.0;
          inside = mine.there.inside;
          start = mine.there.start;
          keeper = keeper (fits-beside mine.fits) (same-directory c.lane.view_is c.requires.owns.2 c.self.view_is) mine.there.inside refl refl;
        };
        publish = our-key mine;
        emptied = our-slots mine;
        at = c.spend-key.ensures.2 ∙ (λ i. spot_at (directory i) ((sym c.spend-key.ensures.1 ∙ mine.there.start) i));
        clear = λ published publishes looks after marked reclaimed clears. discard-away mine publishes looks after marked reclaimed clears;
      };
    }

pub invariant_of-lane : goal.invariant_of-lane
invariant_of-lane g c =
    let filling : FillingOf g.row.T.Denot = record { table = c.args.filling.table; directory = c.args.filling.directory; key = c.spend-key.result.0; start = c.spend-key.result.1; object = c.spend-key.result.2.object } in
    let same : filling ≡ c.args.filling = λ i. record { table = c.args.filling.table; directory = c.args.filling.directory; key = c.spend-key.ensures.0 i; start = c.spend-key.ensures.1 i; object = c.spend-key.ensures.3 i } in
    let mine : IsOurs g.T.Clear.content g.T.Clear.room c.self.inside.grid.shape c.lane.inside.hand.table_id c.lane.inside.hand.me.0 c.lane.inside.state filling
    = ours c.lane.view_is c.requires.owns.1 c.self.view_is c.lane.invariant.1 same c.requires.made in
    let told = c.discard_and_keep.ensures.discards in
    (told.clears.clears.called.did.held ∙ (told.publishes.called.did.held ∙ c.lane.invariant.0), fits-own (discard-fits mine told.publishes told.clears))

pub returns : goal.returns
returns g c =
    let filling : FillingOf g.row.T.Denot = record { table = c.args.filling.table; directory = c.args.filling.directory; key = c.spend-key.result.0; start = c.spend-key.result.1; object = c.spend-key.result.2.object } in
    let same : filling ≡ c.args.filling = λ i. record { table = c.args.filling.table; directory = c.args.filling.directory; key = c.spend-key.ensures.0 i; start = c.spend-key.ensures.1 i; object = c.spend-key.ensures.3 i } in
    let mine : IsOurs g.T.Clear.content g.T.Clear.room c.self.inside.grid.shape c.lane.inside.hand.table_id c.lane.inside.hand.me.0 c.lane.inside.state filling
    = ours c.lane.view_is c.requires.owns.1 c.self.view_is c.lane.invariant.1 same c.requires.made in
    let told = c.discard_and_keep.ensures.discards in
    let before : LaneOf = lane_of c.lane.inside.hand.table_id c.lane.inside.hand.me.0 c.lane.inside.state in
    let after : LaneOf = lane_of c.discard_and_keep.new.hand.table_id c.discard_and_keep.new.hand.me.0 c.discard_and_keep.new.state in
    let left : AfterDiscard g.T.Clear.content g.T.Clear.room c.args.self.now filling before after
    = discard-left mine told.publishes told.clears {pool = c.args.self.now} c.discard_and_keep.new.hand.table_id c.discard_and_keep.ensures.hand.0 (ap (λ p. p.shape) c.self.view_is)
    (subst (λ (l : LaneOf). Owns c.args.self.now l) (sym c.lane.view_is) c.requires.owns) in
    subst (λ (l : LaneOf). AfterDiscard g.T.Clear.content g.T.Clear.room c.args.self.now c.args.filling l after) c.lane.view_is
    (subst (λ (f : FillingOf g.row.T.Denot). AfterDiscard g.T.Clear.content g.T.Clear.room c.args.self.now f before after) same left)
