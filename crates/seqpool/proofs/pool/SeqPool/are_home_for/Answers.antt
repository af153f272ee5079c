use Rattle.std.proofs.Common.{◌≡◌, true, sym, subst, ◌∙◌}
use Rattle.std.proofs.lemmas.List.{take_more}
use Rattle.seqpool.specs.Pool.{NoRepeats, AllHome}
use Rattle.seqpool.specs.Rows.{pool_in}
use Rattle.seqpool.proofs.Collects.{repeats-more, repeats-at, home-more, home-at, from-false}
use Rattle.seqpool.proofs.pool.SeqPool.are_home_for.Goals as goal

pub returns-then-not-may_take : goal.returns-then-not-may_take
returns-then-not-may_take c = (
  λ never. from-false never,
  λ both. let may : c.may_take.result ≡ true = c.may_take.ensures.1 (
    home-at c.args.self.now.shape (pool_in c.args.self.now) c.args.lane c.args.places.now c.loop-i.i 0 c.loop-i-test.true both.1,
    repeats-at c.args.places.now c.loop-i.i 0 c.loop-i-test.true both.0,
  ) in sym c.if-not-may_take.true ∙ may,
)

pub loop-i-preserved : goal.loop-i-preserved
loop-i-preserved c =
    let may = c.may_take.ensures.0 c.if-not-may_take.false in
    let more = sym (take_more c.args.places.now c.loop-i.i 0 c.loop-i-test.true) in
    record {
      once = subst NoRepeats more (repeats-more _ _ c.loop-i.invariant.once may.1);
      here = subst (AllHome c.args.self.now.shape (pool_in c.args.self.now) c.args.lane) more (home-more c.args.self.now.shape (pool_in c.args.self.now) c.args.lane _ _ c.loop-i.invariant.here may.0);
    }
