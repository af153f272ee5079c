-- A release whose share comes back from a loan: what the lane keeps is as if the share had been in its row.
use Rattle.std.proofs.Common.{◌≡◌, inl, ℕ, Option, Some, IfSome, refl, sym, ap, ◌∙◌, subst, arith}
use Rattle.keybits.specs.declared.shape.Shape.{Shape}
use Rattle.keybits.specs.Shapes.{callers, is_place}
use Rattle.keybits.specs.Keys.{place_of}
use Rattle.steplaws.specs.Calls.Call.{Releasing}
use Rattle.poolsteps.specs.Layout.{slot_start, spots_at}
use Rattle.poolsteps.specs.Moved.{Settles}
use Rattle.poolsteps.specs.Told.{MayTouch}
use Rattle.poolsteps.specs.Views.{the_lane, status_of, known_of}
use Rattle.seatcalls.specs.Called.{Called}
use Rattle.shardpool.specs.Lendings.{LendsHome}
use Rattle.shardpool.specs.declared.pool.LaneState.{LaneState}
use Rattle.seatcalls.proofs.parts.Calling.{release-called}
use Rattle.seatcalls.proofs.parts.Standing.{has-left, lawful}
use Rattle.shardpool.proofs.calls.CallParts.{calls-more, calls-behind}
use Rattle.shardpool.proofs.frame.SeenHistories.{same-shape, same-directory}
use Rattle.shardpool.proofs.references.Holdings.{release-holds}
use Rattle.shardpool.proofs.calls.Releases.{Refers, Released, refers-held, end-within, place-inside}
use Rattle.shardpool.proofs.calls.AfterCalls.{after-release}
use Rattle.shardpool.proofs.calls.Loans.{bare-kept, lending-made, home-given, ends-given, returned, spent, loans-returned, seen-held, may-leave, less-bare, keeper-given, given-away, given-back}
use Rattle.shardpool.proofs.frame.LaneFacts.{lane_of}
use Rattle.shardpool.proofs.lending.LendingLane.take_back.Given.{Over}
use Rattle.shardpool.proofs.lending.LendingLane.take_back.Goals as goal

given : {A : Type 0} (P : A → Type 0) (o : Option A) (x : A) → o ≡ Some x → P x → IfSome o P
given {A = A} P o x is holds = subst (λ (q : Option A). IfSome q P) (sym is) holds

-- ---- the share goes back into its slot

pub settle-requires-clause-spot : goal.settle-requires-clause-spot
settle-requires-clause-spot g c =
    let refer = refers-held c.self.view_is c.requires.owns.1 c.pool.view_is c.self.invariant.1.fits c.requires.lent.held refl in
    let loan = rw (← c.self.view_is) at c.requires.lent in
    let shape = same-shape c.self.view_is c.requires.owns.1 c.pool.view_is in
    record {
      place_is = refl;
      inside = ap (λ (p : ℕ). is_place c.pool.inside.grid.shape p) c.requires.place ∙ place-inside (record c.self.inside.state { rows = c.self.invariant.1.rows }) c.args.key refer.fits refer.some;
      start = loan.start ∙ (λ i. slot_start (sym shape i) (sym c.requires.place i));
    }

pub settle-requires-clause-may : goal.settle-requires-clause-may
settle-requires-clause-may g c =
    let refer = refers-held c.self.view_is c.requires.owns.1 c.pool.view_is c.self.invariant.1.fits c.requires.lent.held refl in
    subst (λ (p : ℕ). MayTouch c.pool.inside.grid.shape c.self.inside.hand.me.0 p c.self.inside.state.number) (sym c.requires.place)
    (subst (λ (l : ℕ). MayTouch c.pool.inside.grid.shape c.self.inside.hand.me.0 (place_of c.args.key) l) (sym refer.fits.seat.number_is)
    (c.shares_law.ensures.held c.pool.inside.grid.shape c.self.inside.hand.me.0 c.args.key refer.some))

pub settle-requires-clause-left : goal.settle-requires-clause-left
settle-requires-clause-left g c =
    let refer = refers-held c.self.view_is c.requires.owns.1 c.pool.view_is c.self.invariant.1.fits c.requires.lent.held refl in
    let loan = rw (← c.self.view_is) at c.requires.lent in
    ap (λ (p : ℕ). status_of (the_lane c.self.inside.hand.me.0) p c.self.inside.state.number) c.requires.place
    ∙ (ap (λ (n : ℕ). status_of (the_lane c.self.inside.hand.me.0) (place_of c.args.key) n) refer.fits.seat.number_is ∙ loan.under.emptied)

pub settle-requires-clause-share : goal.settle-requires-clause-share
settle-requires-clause-share g c =
    let refer = refers-held c.self.view_is c.requires.owns.1 c.pool.view_is c.self.invariant.1.fits c.requires.lent.held refl in
    let loan = rw (← c.self.view_is) at c.requires.lent in
    let shape = same-shape c.self.view_is c.requires.owns.1 c.pool.view_is in
    let here = same-directory c.self.view_is c.requires.owns.2 c.pool.view_is in
    given _ c.args.share loan.share loan.share_is (
      loan.under.number_is ∙ sym refer.fits.seat.number_is,
      loan.under.of_is ∙ ap (λ (y : Shape). callers y) (sym shape),
      loan.spot ∙ (λ i. record { directory = here i; index = loan.start i }) ∙ (λ i. spots_at c.pool.inside.grid.objects.ptr (sym shape i) (sym c.requires.place i)),
    )

pub settle-requires-clause-cell : goal.settle-requires-clause-cell
settle-requires-clause-cell g c =
    let loan = rw (← c.self.view_is) at c.requires.lent in
    given _ c.args.share loan.share loan.share_is (inl (sym loan.under.known ∙ ap (λ (p : ℕ). known_of (the_lane c.self.inside.hand.me.0) p) (sym c.requires.place)))

-- ---- the LEAVE, and what follows it

pub count_less-requires : goal.count_less-requires
count_less-requires g c =
    let refer = refers-held c.self.view_is c.requires.owns.1 c.pool.view_is c.self.invariant.1.fits c.requires.lent.held refl in
    let loan = rw (← c.self.view_is) at c.requires.lent in
    let home = home-given refer loan.share (seen-held c.args.key c.self.view_is c.requires.owns.1 c.pool.view_is c.requires.last)
    ((subst (λ (p : ℕ). Settles g.T.Clear.content g.T.Clear.room (spots_at c.pool.inside.grid.objects.ptr c.pool.inside.grid.shape) c.pool.inside.grid.shape p c.self.inside.state.number c.self.inside.hand.me c.args.share c.settle.new.hand.me)
    c.requires.place c.settle.ensures.settles).back loan.share loan.share_is) in
    end-within refer home

pub leave-left-requires-clause-may : goal.leave-left-requires-clause-may
leave-left-requires-clause-may g c =
    let refer = refers-held c.self.view_is c.requires.owns.1 c.pool.view_is c.self.invariant.1.fits c.requires.lent.held refl in
    let loan = rw (← c.self.view_is) at c.requires.lent in
    let home = home-given refer loan.share (seen-held c.args.key c.self.view_is c.requires.owns.1 c.pool.view_is c.requires.last)
    ((subst (λ (p : ℕ). Settles g.T.Clear.content g.T.Clear.room (spots_at c.pool.inside.grid.objects.ptr c.pool.inside.grid.shape) c.pool.inside.grid.shape p c.self.inside.state.number c.self.inside.hand.me c.args.share c.settle.new.hand.me)
    c.requires.place c.settle.ensures.settles).back loan.share loan.share_is) in
    may-leave c.self.inside.state refer home

pub finish_if_owed-requires : goal.finish_if_owed-requires
finish_if_owed-requires g c =
    let refer = refers-held c.self.view_is c.requires.owns.1 c.pool.view_is c.self.invariant.1.fits c.requires.lent.held refl in
    let loan = rw (← c.self.view_is) at c.requires.lent in
    let shape = same-shape c.self.view_is c.requires.owns.1 c.pool.view_is in
    let home = home-given refer loan.share (seen-held c.args.key c.self.view_is c.requires.owns.1 c.pool.view_is c.requires.last)
    ((subst (λ (p : ℕ). Settles g.T.Clear.content g.T.Clear.room (spots_at c.pool.inside.grid.objects.ptr c.pool.inside.grid.shape) c.pool.inside.grid.shape p c.self.inside.state.number c.self.inside.hand.me c.args.share c.settle.new.hand.me)
    c.requires.place c.settle.ensures.settles).back loan.share loan.share_is) in
    let s : LaneState g.row.T.Denot = c.self.inside.state in
    let left = has-left (may-leave s refer home) c.leave-left.ensures.leaves in
    record {
      call = record {
        keeps = record {
          hand = (
            c.leave-left.ensures.hand.0 ∙ (c.settle.ensures.hand.0 ∙ (ap (λ l. l.table) c.self.view_is ∙ (c.requires.owns.0 ∙ sym (ap (λ p. p.table) c.pool.view_is)))),
            left.acted.one,
          );
          bare = left.held ∙ (home.did.held ∙ c.self.invariant.0);
          inside = place-inside (record c.self.inside.state { rows = c.self.invariant.1.rows }) c.args.key refer.fits refer.some;
          start = loan.start ∙ ap (λ (y : Shape). slot_start y (place_of c.args.key)) (sym shape);
          keeper = keeper-given s refer home (returned refer).rows (ends-given refer) c.count_less.new.state c.count_less.ensures
              (same-directory c.self.view_is c.requires.owns.2 c.pool.view_is) left.acted.lane left.pushed;
        };
        seen = lawful {made = left.made} left.acted;
        owes = left.owes;
        may = λ after reclaimed finished acts_so told.
            given-away s refer home (returned refer).rows (ends-given refer) c.count_less.new.state c.count_less.ensures c.leave-left.ensures.leaves reclaimed finished acts_so told;
      };
    }

module _ (g : Over) (c : goal.After-finish_if_owed g) where
  abbrev whole : LaneState g.row.T.Denot
  whole = record c.self.inside.state { rows = c.self.invariant.1.rows }

  refers : Refers g.T.Clear.content g.T.Clear.room c.pool.inside.grid.shape c.args.key c.self.inside.hand.me.0 whole
  refers = refers-held c.self.view_is c.requires.owns.1 c.pool.view_is c.self.invariant.1.fits c.requires.lent.held refl

  lends : LendsHome c.pool.inside.grid.shape c.args.key c.self.inside.hand.me c.settle.new.hand.me whole (spent refers)
  lends =
      let loan = rw (← c.self.view_is) at c.requires.lent in
      home-given refers loan.share (seen-held c.args.key c.self.view_is c.requires.owns.1 c.pool.view_is c.requires.last)
      ((subst (λ (p : ℕ). Settles g.T.Clear.content g.T.Clear.room (spots_at c.pool.inside.grid.objects.ptr c.pool.inside.grid.shape) c.pool.inside.grid.shape p c.self.inside.state.number c.self.inside.hand.me c.args.share c.settle.new.hand.me)
      c.requires.place c.settle.ensures.settles).back loan.share loan.share_is)

  called : Called c.pool.inside.grid.shape (Releasing c.args.key) 34 c.settle.new.hand.me c.finish_if_owed.new.hand.me
  called = release-called lends.idle c.leave-left.ensures.leaves refl c.finish_if_owed.ensures.finishes.ends

  leaves : Released g.T.Clear.content g.T.Clear.room c.pool.inside.grid.shape c.args.key c.self.inside.hand.me.0 c.finish_if_owed.new.hand.me.0 whole
      (record c.finish_if_owed.new.state { rows = (returned refers).rows })
  leaves = let told = c.finish_if_owed.ensures.finishes in
      given-back c.self.inside.state refers lends (returned refers).rows (ends-given refers) c.count_less.new.state c.count_less.ensures c.leave-left.ensures.leaves told.reclaimed told.ends told.acts told.told
      c.finish_if_owed.new.state told.kept

  table : c.finish_if_owed.new.hand.table_id ≡ c.self.inside.hand.table_id
  table = c.finish_if_owed.ensures.hand.0 ∙ (c.leave-left.ensures.hand.0 ∙ c.settle.ensures.hand.0)

pub invariant_of-self : goal.invariant_of-self
invariant_of-self g c =
    let told = c.finish_if_owed.ensures.finishes in (
      (called g c).did.held ∙ ((lends g c).did.held ∙ c.self.invariant.0),
      lending-made (returned (refers g c)).rows (leaves g c).fits
          (bare-kept (place_of c.args.key) told.reclaimed told.kept
          (less-bare c.self.inside.state (refers g c) (lends g c) (returned (refers g c)).rows (ends-given (refers g c)) c.count_less.new.state c.count_less.ensures c.self.invariant.1.bare)),
    )

pub returns-clause-released : goal.returns-clause-released
returns-clause-released g c =
    let home = lends g c in
    after-release {pool = c.args.pool.now} {key = c.args.key} {old = c.args.self.now}
    {new = lane_of c.finish_if_owed.new.hand.table_id c.finish_if_owed.new.hand.me.0 (record c.finish_if_owed.new.state { rows = (returned (refers g c)).rows })}
    c.requires.owns
    (rw (← c.pool.view_is, ← c.self.view_is) (calls-more (calls-behind home.did home.pushed (called g c)) (omega arith)))
    (rw (← c.self.view_is) ((leaves g c).did c.self.inside.hand.table_id c.finish_if_owed.new.hand.table_id (table g c)))
    (rw (← c.self.view_is) (leaves g c).refs)
    (λ filling. rw (← c.self.view_is) ((leaves g c).fillings c.self.inside.hand.table_id c.finish_if_owed.new.hand.table_id (table g c) filling))

pub returns-clause-kept : goal.returns-clause-kept
returns-clause-kept g c =
    let home = lends g c in
    rw (← c.self.view_is) (loans-returned (refers g c) (leaves g c) refl c.self.inside.hand.table_id c.finish_if_owed.new.hand.table_id (table g c)
    (release-holds {z = c.pool.inside.grid.shape} (calls-more (calls-behind home.did home.pushed (called g c)) (omega arith))
    ((leaves g c).did c.self.inside.hand.table_id c.finish_if_owed.new.hand.table_id (table g c)).1))
