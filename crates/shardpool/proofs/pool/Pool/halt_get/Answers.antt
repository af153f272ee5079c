-- A number outside the shape has no step; and the references to a key are among all.
use Rattle.std.proofs.Common.{◌≡◌, ◌<◌, false, true, refl, sym, ap, ◌∙◌, subst, arith}
use Rattle.keybits.specs.Keys.{is_key}
use Rattle.keybits.specs.declared.shape.Shape.{Shape}
use Rattle.steplaws.specs.Calls.Call.{Getting}
use Rattle.steplaws.specs.Facts.{most_references}
use Rattle.poolsteps.specs.Told.{references_seen}
use Rattle.seatcalls.specs.Called.{caller_of}
use Rattle.shardpool.specs.Halted.{CalledWithin}
use Rattle.shardpool.proofs.calls.Gets.{seen-within}
use Rattle.shardpool.proofs.calls.KeyCalls.{ready-at}
use Rattle.shardpool.proofs.calls.Halts.{halts-none, outside-none, ready-parts, lawful-parts}
use Rattle.shardpool.proofs.pool.Pool.halt_get.Goals as goal

pub returns-in_default-clause-called : goal.returns-in_default-clause-called
returns-in_default-clause-called g c =
    let seat = c.requires.parts.fits.seat in
    halts-none (Getting c.args.key) c.args.limit seat.one (seat.legal, seat.own, seat.quiet, seat.owners)
    (outside-none (caller_of c.args.self.now.shape c.args.hand.now.me.0) c.args.key
    (λ inside. let bad : false ≡ true = c.in_default.ensures.some.1 inside in cc bad)).0

pub get_within-requires-clause-room : goal.get_within-requires-clause-room
get_within-requires-clause-room g c =
    let fits = c.requires.parts.fits in
    let few = c.requires.room in
    let all = fits.rows.by_acts in
    let most = seen-within fits c.args.key c.in-Some.ensures.spot.inside in
    subst (λ (z : Shape). references_seen z c.args.hand.now.me.0 c.args.key < most_references) (ap (λ p. p.shape) (sym c.self.view_is)) (omega (arith, few, all, most))

pub returns-clause-called : goal.returns-clause-called
returns-clause-called g c =
    subst (λ (z : Shape). CalledWithin z (Getting c.args.key) c.args.limit c.args.hand.now.me c.get_within.new.hand.me) (ap (λ p. p.shape) c.self.view_is) c.get_within.ensures.called

pub get_within-requires-clause-key : goal.get_within-requires-clause-key
get_within-requires-clause-key g c = ap (λ p. is_key p.shape c.args.key) c.self.view_is ∙ c.in-Some.ensures.some.0 refl

pub returns-clause-outside : goal.returns-clause-outside
returns-clause-outside g c out = let bad : true ≡ false = sym (c.in-Some.ensures.some.0 refl) ∙ out in absurd (cc bad)

pub get_within-requires-clause-call : goal.get_within-requires-clause-call
get_within-requires-clause-call g c =
    let seat = c.requires.parts.fits.seat in
    record {
      act = record { hand = (c.requires.parts.table ∙ sym (ap (λ p. p.table) c.self.view_is), seat.one); bare = c.requires.parts.bare; at = ready-at (ready-parts c.self.view_is c.requires.parts c.in-Some.ensures.spot) _ c.at_spot.ensures.spot c.at_spot.ensures.lane c.at_spot.ensures.tops };
      idle = seat.idle;
    }

pub get_within-requires-clause-seen : goal.get_within-requires-clause-seen
get_within-requires-clause-seen g c = lawful-parts c.self.view_is c.requires.parts
