-- A release: the share of its reference is lent home, and its row has one reference less.
use Rattle.std.proofs.Common.{◌≡◌, ◌<◌, inl, ℕ, [], ◌∷◌, append-nil, IfSome, length, slice_get, refl, sym, ap, ◌∙◌, subst, arith}
use Rattle.keybits.specs.declared.shape.Shape.{Shape}
use Rattle.seqpool.specs.declared.act.Act.TheVariants as acts
use Rattle.steplaws.specs.Calls.Call.{Releasing}
use Rattle.poolsteps.specs.Grids.{IsSpot}
use Rattle.keybits.specs.Keys.{place_of}
use Rattle.seatcalls.specs.Called.{Called, EndsWithActs, IsReclaimed}
use Rattle.seatcalls.proofs.parts.Calling.{release-called, release-acts}
use Rattle.shardpool.proofs.parts.Handing.{hands-behind, hands-after, released-mine}
use Rattle.seatcalls.proofs.parts.Standing.{has-left, lawful}
use Rattle.poolsteps.specs.Views.{the_lane}
use Rattle.shardpool.specs.Tokens.{PoolOf}
use Rattle.shardpool.specs.LaneStates.{Fits}
use Rattle.shardpool.proofs.calls.CallParts.{calls-more, calls-behind}
use Rattle.shardpool.proofs.frame.SeenHistories.{same-directory}
use Rattle.shardpool.proofs.calls.Ends.{keeper}
use Rattle.shardpool.proofs.calls.Releases.{EndsAt, Released, refers-held, lent-some, lent-share, end-low, end-more, end-within, beside, released-away, released}
use Rattle.shardpool.proofs.calls.AfterCalls.{after-release}
use Rattle.shardpool.proofs.frame.LaneFacts.{lane_of}
use Rattle.shardpool.proofs.pool.Pool.release_from.Given.{Over}
use Rattle.shardpool.proofs.pool.Pool.release_from.Goals as goal

pub return_last_share-requires-clause-fits : goal.return_last_share-requires-clause-fits
return_last_share-requires-clause-fits g c =
    (refers-held c.lane.view_is c.requires.owns.1 c.self.view_is c.lane.invariant.1 c.requires.held refl).fits

pub return_last_share-requires-clause-held : goal.return_last_share-requires-clause-held
return_last_share-requires-clause-held g c =
    (refers-held c.lane.view_is c.requires.owns.1 c.self.view_is c.lane.invariant.1 c.requires.held refl).some

pub drop_reference-requires-clause-at : goal.drop_reference-requires-clause-at
drop_reference-requires-clause-at g c =
    let refers = refers-held c.lane.view_is c.requires.owns.1 c.self.view_is c.lane.invariant.1 c.requires.held refl in
    let spot = subst (λ (p : PoolOf). IsSpot p.shape c.args.spot (place_of c.args.key)) (sym c.self.view_is) c.requires.spot in
    subst (λ (n : ℕ). n < length c.return_last_share.new.state.rows.items) (sym spot.start) (end-low refers c.return_last_share.ensures.lends)

pub drop_reference-requires-clause-more : goal.drop_reference-requires-clause-more
drop_reference-requires-clause-more g c row stands =
    let refers = refers-held c.lane.view_is c.requires.owns.1 c.self.view_is c.lane.invariant.1 c.requires.held refl in
    let spot = subst (λ (p : PoolOf). IsSpot p.shape c.args.spot (place_of c.args.key)) (sym c.self.view_is) c.requires.spot in
    end-more refers c.return_last_share.ensures.lends row (ap (slice_get c.return_last_share.new.state.rows.items) (sym spot.start) ∙ stands)

pub drop_reference-requires-clause-within : goal.drop_reference-requires-clause-within
drop_reference-requires-clause-within g c =
    end-within (refers-held c.lane.view_is c.requires.owns.1 c.self.view_is c.lane.invariant.1 c.requires.held refl) c.return_last_share.ensures.lends

pub return_last_share-requires-clause-directory : goal.return_last_share-requires-clause-directory
return_last_share-requires-clause-directory g c = same-directory c.lane.view_is c.requires.owns.2 c.self.view_is

-- ---- the LEAVE, and what follows it

pub leave-left-requires-clause-may : goal.leave-left-requires-clause-may
leave-left-requires-clause-may g c =
    let refers = refers-held c.lane.view_is c.requires.owns.1 c.self.view_is c.lane.invariant.1 c.requires.held refl in
    inl (
      c.return_last_share.ensures.lends.idle,
      (let some = refers.some in let same = lent-some refers c.return_last_share.ensures.lends in omega (arith, same, some)),
      rw (refers.fits.seat.number_is ∙ sym c.return_last_share.ensures.lends.did.acted.lane) at (lent-share refers c.return_last_share.ensures.lends),
    )

pub finish_if_owed-requires : goal.finish_if_owed-requires
finish_if_owed-requires g c =
    let lends = c.return_last_share.ensures.lends in
    let refers = refers-held c.lane.view_is c.requires.owns.1 c.self.view_is c.lane.invariant.1 c.requires.held refl in
    let spot = subst (λ (p : PoolOf). IsSpot p.shape c.args.spot (place_of c.args.key)) (sym c.self.view_is) c.requires.spot in
    let ends = subst (λ (n : ℕ). EndsAt n c.return_last_share.new.state c.drop_reference.new.state) spot.start (c.drop_reference.ensures.rows, c.drop_reference.ensures.rest) in
    let number = ap (λ x. x.number) c.drop_reference.ensures.rest ∙ ap (λ x. x.number) lends.rest in
    let left = has-left (inl (
      lends.idle,
      (let some = refers.some in let same = lent-some refers lends in omega (arith, same, some)),
      rw (refers.fits.seat.number_is ∙ sym lends.did.acted.lane) at (lent-share refers lends),
    )) c.leave-left.ensures.leaves in
    record {
      call = record {
        keeps = record {
          hand = (
            c.leave-left.ensures.hand.0 ∙ (c.return_last_share.ensures.hand.0 ∙ (ap (λ l. l.table) c.lane.view_is ∙ (c.requires.owns.0 ∙ sym (ap (λ p. p.table) c.self.view_is)))),
            left.acted.one,
          );
          bare = left.held ∙ (lends.did.held ∙ c.lane.invariant.0);
          inside = spot.inside;
          start = spot.start;
          keeper = keeper (beside refers lends c.drop_reference.new.state ends)
              (ap (λ x. x.objects.directory) c.drop_reference.ensures.rest ∙ (ap (λ x. x.objects.directory) lends.rest ∙ same-directory c.lane.view_is c.requires.owns.2 c.self.view_is))
              spot.inside left.acted.lane left.pushed;
        };
        seen = lawful {made = left.made} left.acted;
        owes = left.owes;
        may = λ after reclaimed finished acts_so told.
            released-away refers lends c.drop_reference.new.state ends reclaimed (release-called lends.idle c.leave-left.ensures.leaves refl finished).did
            (subst (λ (n : ℕ). EndsWithActs c.self.inside.grid.shape (place_of c.args.key) (acts.Release n c.args.key ∷ []) c.return_last_share.new.hand.me.0 after.0 reclaimed)
            (sym (refers.fits.seat.number_is ∙ sym lends.did.acted.lane)) (release-acts (place_of c.args.key) after.0 reclaimed lends.idle c.leave-left.ensures.leaves acts_so))
            (subst (λ (n : ℕ). IfSome reclaimed (IsReclaimed g.T.Clear.content g.T.Clear.room c.self.inside.grid.shape (place_of c.args.key) n after.0)) number told);
      };
    }

module _ (g : Over) (c : goal.After-finish_if_owed g) where
  -- the release, and nothing more
  called : Called c.self.inside.grid.shape (Releasing c.args.key) 34 c.return_last_share.new.hand.me c.finish_if_owed.new.hand.me
  called = release-called c.return_last_share.ensures.lends.idle c.leave-left.ensures.leaves refl c.finish_if_owed.ensures.finishes.ends

  -- what the call leaves of the lane
  leaves : Released g.T.Clear.content g.T.Clear.room c.self.inside.grid.shape c.args.key c.lane.inside.hand.me.0 c.finish_if_owed.new.hand.me.0 c.lane.inside.state
      c.finish_if_owed.new.state
  leaves =
      let refers = refers-held c.lane.view_is c.requires.owns.1 c.self.view_is c.lane.invariant.1 c.requires.held refl in
      let spot = subst (λ (p : PoolOf). IsSpot p.shape c.args.spot (place_of c.args.key)) (sym c.self.view_is) c.requires.spot in
      let ends = subst (λ (n : ℕ). EndsAt n c.return_last_share.new.state c.drop_reference.new.state) spot.start (c.drop_reference.ensures.rows, c.drop_reference.ensures.rest) in
      let number = ap (λ x. x.number) c.drop_reference.ensures.rest ∙ ap (λ x. x.number) c.return_last_share.ensures.lends.rest in
      let told = c.finish_if_owed.ensures.finishes in
      released refers c.return_last_share.ensures.lends c.drop_reference.new.state ends told.reclaimed called.did
      (subst (λ (n : ℕ). EndsWithActs c.self.inside.grid.shape (place_of c.args.key) (acts.Release n c.args.key ∷ []) c.return_last_share.new.hand.me.0 c.finish_if_owed.new.hand.me.0 told.reclaimed)
      (sym (refers.fits.seat.number_is ∙ sym c.return_last_share.ensures.lends.did.acted.lane))
      (release-acts (place_of c.args.key) c.finish_if_owed.new.hand.me.0 told.reclaimed c.return_last_share.ensures.lends.idle c.leave-left.ensures.leaves told.acts))
      (subst (λ (n : ℕ). IfSome told.reclaimed (IsReclaimed g.T.Clear.content g.T.Clear.room c.self.inside.grid.shape (place_of c.args.key) n c.finish_if_owed.new.hand.me.0)) number told.told)
      called.idle c.finish_if_owed.new.state told.kept

  table : c.finish_if_owed.new.hand.table_id ≡ c.lane.inside.hand.table_id
  table = c.finish_if_owed.ensures.hand.0 ∙ (c.leave-left.ensures.hand.0 ∙ c.return_last_share.ensures.hand.0)

pub invariant_of-lane : goal.invariant_of-lane
invariant_of-lane g c =
    let now = (leaves g c).fits in (
      (called g c).did.held ∙ (c.return_last_share.ensures.lends.did.held ∙ c.lane.invariant.0),
      subst (λ (z : Shape). Fits g.T.Clear.content g.T.Clear.room z c.finish_if_owed.new.hand.me.0 c.finish_if_owed.new.state) (sym now.shape_is) now,
    )

pub returns-clause-released : goal.returns-clause-released
returns-clause-released g c =
    let lends = c.return_last_share.ensures.lends in
    after-release {pool = c.args.self.now} {key = c.args.key} {old = c.args.lane.now} {new = lane_of c.finish_if_owed.new.hand.table_id c.finish_if_owed.new.hand.me.0 c.finish_if_owed.new.state}
    c.requires.owns
    (rw (← c.self.view_is, ← c.lane.view_is) (calls-more (calls-behind lends.did lends.pushed (called g c)) (omega arith)))
    (rw (← c.lane.view_is) ((leaves g c).did c.lane.inside.hand.table_id c.finish_if_owed.new.hand.table_id (table g c)))
    (rw (← c.lane.view_is) (leaves g c).refs)
    (λ filling. rw (← c.lane.view_is) ((leaves g c).fillings c.lane.inside.hand.table_id c.finish_if_owed.new.hand.table_id (table g c) filling))

pub returns-clause-hands : goal.returns-clause-hands
returns-clause-hands g c =
    let lends = c.return_last_share.ensures.lends in
    rw (← c.lane.view_is)
    (hands-behind g.E.Emptier.takes c.lane.inside.hand.me.0 c.return_last_share.new.hand.me.0 c.finish_if_owed.new.hand.me.0 (lends.did.acted.mine ∙ append-nil (the_lane c.lane.inside.hand.me.0).mine)
    (hands-after g.E.Emptier.takes c.return_last_share.new.hand.me.0 c.leave-left.new.hand.me.0 c.finish_if_owed.new.hand.me.0 _
    (released-mine lends.idle c.leave-left.ensures.leaves) (λ made took. took) c.finish_if_owed.ensures.hands))
