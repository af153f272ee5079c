use Rattle.std.proofs.Common.{true, refl, sym, ap, ◌∙◌, subst}
use mathlib.Core.List.{IsPrefix}
use mathlib.Core.Option.{some}
use Rattle.shardpool.specs.Tokens.{LaneOf, FillingOf}
use Rattle.shardpool.specs.Lanes.{Made, SameLane, refs}
use Rattle.guards.proofs.Guarding.{guard-may-publish, guard-gives}
use Rattle.guards.proofs.filling.FillGuard+T.new.Goals as goal

pub returns : goal.returns
returns g c =
    let got = c.in_ok-filling.ensures in
    let of = c.of.ensures.parts in
    let filling = c.in_ok-filling.filling in (
      (ap some (sym c.of.ensures.same_reference), λ w. refl, tt),
      record {
        refuses = tt;
        same_reference = c.of.ensures.same_reference;
        pool = of.1;
        may = guard-may-publish of.0 of.1 got.owns filling c.of.result.filling of.2 got.gives;
        gives = guard-gives of.0 of.1 got.owns filling c.of.result.filling of.2 got.gives;
        apart = λ other made same. got.apart other made (same ∙ ap (λ (f : FillingOf _). f.key) of.2);
        seen = subst (λ (lane : LaneOf). IsPrefix c.args.lane.now.book.seen lane.book.seen) (sym of.0) got.seen;
        same = subst (λ (lane : LaneOf). SameLane c.args.lane.now lane) (sym of.0) got.gives.created.same;
        refs = ap refs of.0 ∙ got.refs;
        full = λ e. absurd (cc e);
        memory = λ e. absurd (cc e);
        succeeds = λ some. refl {a = true};
        fillings = λ other made. subst (λ (lane : LaneOf). Made lane other) (sym of.0) (got.fillings other made);
      },
    )
