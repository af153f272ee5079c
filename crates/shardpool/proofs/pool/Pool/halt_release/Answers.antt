-- The share goes back in front of the call.
use Rattle.std.proofs.Common.{◌≢◌, ℕ, ap, sym, ◌∙◌, subst, arith}
use Rattle.keybits.specs.Keys.{place_of}
use Rattle.keybits.specs.declared.shape.Shape.{Shape}
use Rattle.steplaws.specs.Calls.Call.{Releasing}
use Rattle.poolsteps.specs.declared.grid.Spot.{Spot}
use Rattle.poolsteps.specs.Grids.{IsSpot}
use Rattle.poolsteps.specs.Views.{the_lane, status_of}
use Rattle.poolsteps.specs.declared.view.Status.TheVariants.{Untouched}
use Rattle.shardpool.specs.Halted.{CalledWithin}
use Rattle.shardpool.proofs.parts.Within.{called-not}
use Rattle.shardpool.proofs.calls.Releases.{lent-some, lent-share, lent-at}
use Rattle.shardpool.proofs.calls.Halts.{halts-behind, refers-parts}
use Rattle.shardpool.proofs.pool.Pool.halt_release.Goals as goal

pub returns-then-limit-eq0-clause-called : goal.returns-then-limit-eq0-clause-called
returns-then-limit-eq0-clause-called g c =
    let seat = c.requires.parts.fits.seat in called-not (Releasing c.args.key) c.args.limit c.if-limit-eq0.true seat.one (seat.legal, seat.own, seat.quiet, seat.owners)

pub return_last_share-requires-clause-fits : goal.return_last_share-requires-clause-fits
return_last_share-requires-clause-fits g c = (refers-parts c.self.view_is c.requires.parts c.requires.held).fits

pub return_last_share-requires-clause-held : goal.return_last_share-requires-clause-held
return_last_share-requires-clause-held g c = (refers-parts c.self.view_is c.requires.parts c.requires.held).some

pub release_within-requires-clause-held : goal.release_within-requires-clause-held
release_within-requires-clause-held g c =
    let refers = refers-parts c.self.view_is c.requires.parts c.requires.held in
    let some = refers.some in
    let same = lent-some refers c.return_last_share.ensures.lends in omega (arith, same, some)

pub release_within-requires-clause-share : goal.release_within-requires-clause-share
release_within-requires-clause-share g c below moved =
    let lends = c.return_last_share.ensures.lends in
    let lane = c.at_spot.ensures.lane ∙ ap (λ s. s.number) lends.rest in
    lent-share (refers-parts c.self.view_is c.requires.parts c.requires.held) lends
    (subst (λ (n : ℕ). status_of (the_lane c.return_last_share.new.hand.me.0) (place_of c.args.key) n ≢ Untouched) lane moved)

pub release_within-requires-clause-call : goal.release_within-requires-clause-call
release_within-requires-clause-call g c =
    let refers = refers-parts c.self.view_is c.requires.parts c.requires.held in
    let lends = c.return_last_share.ensures.lends in
    let is = c.at_spot.ensures in
    let spot = subst (λ (x : Spot). IsSpot c.self.inside.grid.shape x (place_of c.args.key)) (sym is.spot)
    (subst (IsSpot c.self.inside.grid.shape c.spot-spot.result) c.place_of.ensures.place c.spot-spot.ensures) in
    record {
      act = record {
        hand = (c.return_last_share.ensures.hand.0 ∙ (c.requires.parts.table ∙ sym (ap (λ p. p.table) c.self.view_is)), lends.did.acted.one);
        bare = lends.did.held ∙ c.requires.parts.bare;
        at = lent-at refers lends _ spot (is.lane ∙ ap (λ s. s.number) lends.rest) is.tops;
      };
      idle = lends.idle;
    }

pub returns-clause-called : goal.returns-clause-called
returns-clause-called g c =
    let lends = c.return_last_share.ensures.lends in
    subst (λ (z : Shape). CalledWithin z (Releasing c.args.key) c.args.limit c.args.hand.now.me c.release_within.new.hand.me) (ap (λ p. p.shape) c.self.view_is)
    (halts-behind lends.did lends.pushed c.release_within.ensures.called)

pub return_last_share-requires-clause-directory : goal.return_last_share-requires-clause-directory
return_last_share-requires-clause-directory g c = c.requires.parts.directory ∙ sym (ap (λ p. p.directory) c.self.view_is)
