-- A clear: what it leaves of the lane.
use Rattle.std.proofs.Common.{refl, sym, ap, ◌∙◌, arith}
use Rattle.std.proofs.lemmas.Bool.{false≢true}
use Rattle.keybits.specs.Keys.{is_key}
use Rattle.shardpool.proofs.calls.CallParts.{calls-more}
use Rattle.shardpool.proofs.calls.Halts.{fits-own}
use Rattle.shardpool.proofs.calls.AfterCalls.{after-clear, clear-outside}
use Rattle.shardpool.proofs.frame.LaneFacts.{lane_of}
use Rattle.shardpool.proofs.frame.SeenHistories.{same-directory}
use Rattle.shardpool.proofs.calls.Ends.{fits-beside, keeper}
use Rattle.shardpool.proofs.calls.KeyCalls.{ready, cleared-away, cleared}
use Rattle.shardpool.proofs.parts.Handing.{hands-none}
use Rattle.shardpool.proofs.pool.Pool.clear_with.Goals as goal

-- ---- the call may be made

pub clear_and_keep-requires : goal.clear_and_keep-requires
clear_and_keep-requires g c =
    let before = ready c.lane.view_is c.requires.owns.1 c.self.view_is c.lane.invariant.1 c.in-Some.ensures.spot in
    record {
      call = record {
        keeps = record {
          hand = (ap (λ l. l.table) c.lane.view_is ∙ (c.requires.owns.0 ∙ sym (ap (λ p. p.table) c.self.view_is)), before.fits.seat.one);
          bare = c.lane.invariant.0;
          inside = before.there.inside;
          start = before.there.start;
          keeper = keeper (fits-beside before.fits) (same-directory c.lane.view_is c.requires.owns.2 c.self.view_is) before.there.inside refl refl;
        };
        valid = ap (λ p. is_key p.shape c.args.key) c.self.view_is ∙ c.in-Some.ensures.some.0 refl;
        idle = before.fits.seat.idle;
        may = λ looks after marked reclaimed clears. cleared-away before reclaimed marked clears.called clears.acts clears.told;
      };
    }

-- ---- what it leaves

pub invariant_of-lane : goal.invariant_of-lane
invariant_of-lane g c =
    let before = ready c.lane.view_is c.requires.owns.1 c.self.view_is c.lane.invariant.1 c.in-Some.ensures.spot in
    let told = c.clear_and_keep.ensures.clears in
    let left = cleared before told.reclaimed c.clear_and_keep.new.state told.kept c.clear_and_keep.result told.clears.called told.clears.acts told.clears.told in
    (told.clears.called.did.held ∙ c.lane.invariant.0, fits-own left.fits)

pub returns-clause-cleared : goal.returns-clause-cleared
returns-clause-cleared g c =
    let before = ready c.lane.view_is c.requires.owns.1 c.self.view_is c.lane.invariant.1 c.in-Some.ensures.spot in
    let told = c.clear_and_keep.ensures.clears in
    let left = cleared before told.reclaimed c.clear_and_keep.new.state told.kept c.clear_and_keep.result told.clears.called told.clears.acts told.clears.told in
    let table = c.clear_and_keep.ensures.hand.0 in
    after-clear {pool = c.args.self.now} {key = c.args.key} {old = c.args.lane.now} {new = lane_of c.clear_and_keep.new.hand.table_id c.clear_and_keep.new.hand.me.0 c.clear_and_keep.new.state}
    c.requires.owns c.clear_and_keep.result (c.in-Some.ensures.some.0 refl)
    (rw (← c.self.view_is, ← c.lane.view_is) (calls-more told.clears.called (omega arith)))
    (rw (← c.lane.view_is) (left.did c.lane.inside.hand.table_id c.clear_and_keep.new.hand.table_id table))
    (rw (← c.lane.view_is) left.refs)
    (λ filling. rw (← c.lane.view_is) (left.fillings c.lane.inside.hand.table_id c.clear_and_keep.new.hand.table_id table filling))

-- ---- it is no key of the pool

pub returns-in_default-clause-cleared : goal.returns-in_default-clause-cleared
returns-in_default-clause-cleared g c = clear-outside c.requires.owns c.seen_law.ensures.legal (λ is. absurd (false≢true (c.in_default.ensures.some.1 is)))

-- ---- what the emptier took

pub returns-clause-hands : goal.returns-clause-hands
returns-clause-hands g c = rw (← c.lane.view_is) c.clear_and_keep.ensures.hands

pub returns-in_default-clause-hands : goal.returns-in_default-clause-hands
returns-in_default-clause-hands g c = hands-none g.E.Emptier.takes c.args.lane.now.book c.args.emptier.now
