-- A number outside the shape has no step.
use Rattle.std.proofs.Common.{false, true, ◌≡◌, refl, sym, ap, ◌∙◌, subst}
use Rattle.keybits.specs.Keys.{is_key}
use Rattle.keybits.specs.declared.shape.Shape.{Shape}
use Rattle.steplaws.specs.Calls.Call.{Clearing}
use Rattle.seatcalls.specs.Called.{caller_of}
use Rattle.shardpool.specs.Halted.{CalledWithin}
use Rattle.shardpool.proofs.calls.KeyCalls.{ready-at}
use Rattle.shardpool.proofs.calls.Halts.{halts-none, outside-none, ready-parts, lawful-parts}
use Rattle.shardpool.proofs.pool.Pool.halt_clear.Goals as goal

pub returns-in_default-clause-called : goal.returns-in_default-clause-called
returns-in_default-clause-called g c =
    let seat = c.requires.parts.fits.seat in
    halts-none (Clearing c.args.key) c.args.limit seat.one (seat.legal, seat.own, seat.quiet, seat.owners)
    (outside-none (caller_of c.args.self.now.shape c.args.hand.now.me.0) c.args.key
    (λ inside. let bad : false ≡ true = c.in_default.ensures.some.1 inside in cc bad)).1

pub returns-clause-called : goal.returns-clause-called
returns-clause-called g c =
    subst (λ (z : Shape). CalledWithin z (Clearing c.args.key) c.args.limit c.args.hand.now.me c.clear_within.new.hand.me) (ap (λ p. p.shape) c.self.view_is) c.clear_within.ensures.called

pub clear_within-requires-clause-key : goal.clear_within-requires-clause-key
clear_within-requires-clause-key g c = ap (λ p. is_key p.shape c.args.key) c.self.view_is ∙ c.in-Some.ensures.some.0 refl

pub returns-clause-outside : goal.returns-clause-outside
returns-clause-outside g c out = let bad : true ≡ false = sym (c.in-Some.ensures.some.0 refl) ∙ out in absurd (cc bad)

pub clear_within-requires-clause-call : goal.clear_within-requires-clause-call
clear_within-requires-clause-call g c =
    let seat = c.requires.parts.fits.seat in
    record {
      act = record { hand = (c.requires.parts.table ∙ sym (ap (λ p. p.table) c.self.view_is), seat.one); bare = c.requires.parts.bare; at = ready-at (ready-parts c.self.view_is c.requires.parts c.in-Some.ensures.spot) _ c.at_spot.ensures.spot c.at_spot.ensures.lane c.at_spot.ensures.tops };
      idle = seat.idle;
    }

pub clear_within-requires-clause-seen : goal.clear_within-requires-clause-seen
clear_within-requires-clause-seen g c = lawful-parts c.self.view_is c.requires.parts
