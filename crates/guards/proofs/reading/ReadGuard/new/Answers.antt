use Rattle.std.proofs.Common.{refl, sym, ap, ◌∙◌, subst, arith}
use mathlib.Core.Bool.{true≢false}
use mathlib.Core.List.{IsPrefix}
use mathlib.Core.Option.{some}
use Rattle.steplaws.specs.Calls.Call.{Getting}
use Rattle.shardpool.specs.Tokens.{LaneOf}
use Rattle.shardpool.specs.Lanes.{Made, SameLane, Calls, holds, refs}
use Rattle.shardpool.specs.Seen.{FoundSince}
use Rattle.shardpool.proofs.references.Holdings.{got-inside}
use Rattle.guards.proofs.Guarding.{guard-may, guard-gets}
use Rattle.guards.proofs.reading.ReadGuard.new.Goals as goal

pub returns : goal.returns
returns g c =
    let got = c.in_ok-reference.ensures in
    let old = c.args.lane.now in
    let of = c.of.ensures.parts in
    let key = c.args.key in
    let reference = c.in_ok-reference.reference in
    let inside = got-inside c.args.pool.now.shape key old c.get.new.lane reference got.outside in
    let gets = got.gets inside in (
      (ap some (sym c.of.ensures.same_reference), λ w. refl, tt),
      record {
        misses = tt;
        same_reference = c.of.ensures.same_reference;
        pool = of.1;
        may = guard-may {old = old} of.0 of.1 got.owns key reference c.of.result.reference of.2 gets;
        inside = λ _. inside;
        called = subst (λ (lane : LaneOf). Calls c.args.pool.now.shape (Getting key) old.book lane.book) (sym of.0) (got.called inside);
        gets = guard-gets {old = old} of.0 of.1 got.owns key reference c.of.result.reference of.2 gets;
        found = subst (λ (lane : LaneOf). FoundSince key old lane) (sym of.0) (got.found refl);
        seen = subst (λ (lane : LaneOf). IsPrefix old.book.seen lane.book.seen) (sym of.0) got.seen;
        same = subst (λ (lane : LaneOf). SameLane old lane) (sym of.0) got.same;
        refs = ap refs of.0 ∙ got.refs;
        holds = λ other. ap (λ (lane : LaneOf). holds lane other) of.0 ∙ got.one_more refl other;
        fillings = λ filling made. subst (λ (lane : LaneOf). Made lane filling) (sym of.0) (got.fillings filling made);
      },
    )

pub get-requires-clause-owns : goal.get-requires-clause-owns
get-requires-clause-owns g c = c.requires.owns

pub get-requires-clause-room : goal.get-requires-clause-room
get-requires-clause-room g c = c.requires.room

pub returns-in_err-reference : goal.returns-in_err-reference
returns-in_err-reference g c =
    let got = c.in_err-reference.ensures in
    let same_refs = got.refs in
    rw c.from_residual.ensures (
      (
        refl,
        λ w. tt,
        record {
          owns = got.owns;
          outside = λ out. (got.outside out).1;
          called = got.called;
          gets = got.gets;
          same = got.same;
          missed = got.missed refl;
          seen = got.seen;
          refs_are = omega (arith, same_refs);
          held = got.no_more refl;
          fillings = got.fillings;
        },
      ),
      record { misses = tt; same_reference = tt; pool = tt; may = tt; inside = λ some. absurd (true≢false (sym some)); called = tt; gets = tt; found = tt; seen = tt; same = tt; refs = tt; holds = tt; fillings = tt },
    )
