-- The share of the last reference goes back into its slot.
use Rattle.std.proofs.Common.{◌≡◌, inl, ℕ, ◌<◌, length, Option, Some, None, IfSome, refl, sym, ap, ◌∙◌, subst}
use Rattle.poolsteps.specs.Layout.{slot_start, spots_at}
use Rattle.keybits.specs.Keys.{place_of, generation_of}
use Rattle.poolsteps.specs.Share.{Share}
use Rattle.poolsteps.specs.Views.{the_lane, status_of, known_of}
use Rattle.poolsteps.specs.Moved.{Settles}
use Rattle.shardpool.specs.LaneStates.{IsHeld}
use Rattle.shardpool.proofs.calls.Releases.{LendsBack, row-low, lent-held, lent-stands, lent-emptied, lent-back, lent-more}
use Rattle.shardpool.proofs.release.return_last_share.Given.{Over}
use Rattle.shardpool.proofs.release.return_last_share.Goals.{After-take_last_share-last}
use Rattle.shardpool.proofs.release.return_last_share.Goals as goal

if-some : {A : Type 0} {P : A → Type 0} (o : Option A) → ((x : A) → o ≡ Some x → P x) → IfSome o P
if-some (Some x) holds = holds x refl
if-some None holds = tt

either : {A P : Type 0} (o : Option A) → ((x : A) → o ≡ Some x → P) → (o ≡ None → P) → P
either (Some x) some none = some x refl
either None some none = none refl

module _ (g : Over) (c : After-take_last_share-last g) where
  lends : LendsBack (slot_start c.args.grid.now.shape (place_of c.args.key)) c.args.state.now c.take_last_share-last.new.state c.take_last_share-last.result
  lends = subst (λ (n : ℕ). LendsBack n c.args.state.now c.take_last_share-last.new.state c.take_last_share-last.result) c.requires.spot.start
      (record { one = c.take_last_share-last.ensures.some; more = c.take_last_share-last.ensures.none; rest = c.take_last_share-last.ensures.rest })

  held : (share : Share g.row.T.Denot) → c.take_last_share-last.result ≡ Some share → IsHeld g.T.Clear.content g.T.Clear.room c.args.grid.now.shape c.args.hand.now.me.0 (place_of c.args.key) (generation_of c.args.key) share
  held share is = lent-held c.args.state.now c.take_last_share-last.new.state c.args.key c.take_last_share-last.result c.requires.fits c.requires.held lends share is

  -- it stands where its row does
  stood : (share : Share g.row.T.Denot) → c.take_last_share-last.result ≡ Some share → share.spot ≡ spots_at c.args.grid.now.objects.ptr c.args.grid.now.shape c.args.spot.place
  stood share is =
      lent-stands c.args.state.now c.take_last_share-last.new.state c.args.key c.take_last_share-last.result c.requires.fits c.requires.held lends share is
      ∙ (λ i. spots_at (c.requires.directory i) c.args.grid.now.shape (sym c.requires.spot.place_is i))

pub take_last_share-last-requires : goal.take_last_share-last-requires
take_last_share-last-requires g c = record {
  at = subst (λ (n : ℕ). n < length c.args.state.now.rows.items) (sym c.requires.spot.start) (row-low c.args.state.now c.args.key c.requires.fits c.requires.held);
}

pub settle-requires-clause-left : goal.settle-requires-clause-left
settle-requires-clause-left g c =
    ap (λ (p : ℕ). status_of (the_lane c.args.hand.now.me.0) p c.args.state.now.number) c.requires.spot.place_is
    ∙ lent-emptied c.args.state.now c.take_last_share-last.new.state c.args.key c.take_last_share-last.result c.requires.fits c.requires.held

pub settle-requires-clause-share : goal.settle-requires-clause-share
settle-requires-clause-share g c =
    let after = (goal.at.settle-requires-clause-share g c).After-take_last_share-last in
    if-some c.take_last_share-last.result (λ share is.
    let h = held g after share is in
    (h.number_is ∙ sym c.requires.fits.seat.number_is, h.of_is, stood g after share is))

pub settle-requires-clause-cell : goal.settle-requires-clause-cell
settle-requires-clause-cell g c =
    let after = (goal.at.settle-requires-clause-cell g c).After-take_last_share-last in
    if-some c.take_last_share-last.result (λ share is.
    let h = held g after share is in
    inl (sym h.known ∙ ap (λ (p : ℕ). known_of (the_lane c.args.hand.now.me.0) p) (sym c.requires.spot.place_is)))

pub returns-clause-lends : goal.returns-clause-lends
returns-clause-lends g c =
    let after = (goal.at.returns-clause-lends g c).After-take_last_share-last in
    let settles = subst (λ (p : ℕ). Settles g.T.Clear.content g.T.Clear.room (spots_at c.args.grid.now.objects.ptr c.args.grid.now.shape) c.args.grid.now.shape p c.args.state.now.number c.args.hand.now.me c.take_last_share-last.result c.settle.new.hand.me)
    c.requires.spot.place_is c.settle.ensures.settles in
    either c.take_last_share-last.result
    (λ share is. lent-back c.args.state.now c.take_last_share-last.new.state c.args.key c.take_last_share-last.result c.requires.fits c.requires.held (lends g after) share is (settles.back share is))
    (λ none. lent-more c.args.state.now c.take_last_share-last.new.state c.args.key c.take_last_share-last.result c.requires.fits c.requires.held (lends g after) (settles.none none)
    (λ share is. let bad : None ≡ Some share = sym none ∙ is in cc bad))
