-- What was lent is given back, and was published.
use Rattle.std.proofs.Common.{ℕ, refl, subst}
use Rattle.guards.specs.Several.{Gave}
use Rattle.guards.proofs.Lending.{has-one, has-two, back-two, read-later}
use Rattle.guards.proofs.several.with_two.Goals as goal

pub returns-in_err-one-clause-tries : goal.returns-in_err-one-clause-tries
returns-in_err-one-clause-tries g c = λ none. c.in_err-one.ensures.tries refl

pub read-requires : goal.read-requires
read-requires g c = has-one (c.in_ok-one.ensures.lends refl) 1 c.args.keys.0 c.in_ok-one.one.key refl c.in_ok-one.ensures.both.0

pub read-requires-2 : goal.read-requires-2
read-requires-2 g c = has-one (c.in_ok-one.ensures.lends refl) 0 c.args.keys.1 c.in_ok-one.other.key refl c.in_ok-one.ensures.both.1

pub release_two-requires-clause-held : goal.release_two-requires-clause-held
release_two-requires-clause-held g c =
    let both = c.in_ok-one.ensures.both in has-two c.args.keys.0 c.args.keys.1 c.in_ok-one.one.key c.in_ok-one.other.key both.0 both.1 (c.in_ok-one.ensures.lends refl)

pub returns-clause-some : goal.returns-clause-some
returns-clause-some g c =
    let both = c.in_ok-one.ensures.both in
    let seen = c.release_two.ensures.returns.goes.seen in (
      c.read.result,
      c.read-2.result,
      c.f-answer.ensures,
      read-later c.get_two.new.lane.book.seen c.release_two.new.lane.book.seen (g.T.Clear.content c.read.result.now) c.in_ok-one.one.key c.args.keys.0 both.0 seen c.read.ensures,
      read-later c.get_two.new.lane.book.seen c.release_two.new.lane.book.seen (g.T.Clear.content c.read-2.result.now) c.in_ok-one.other.key c.args.keys.1 both.1 seen c.read-2.ensures,
    )

pub returns-clause-uses : goal.returns-clause-uses
returns-clause-uses g c = λ some.
    let both = c.in_ok-one.ensures.both in
    let got = c.in_ok-one.ensures.got refl in
    let gave = c.release_two.ensures.gave in
    let z = c.args.pool.now.shape in (
      got.0,
      gave.0,
      got.1,
      (c.get_two.new.lane, c.get_two.new.lane, got.2, refl, subst (λ (k : ℕ). Gave z k c.get_two.new.lane gave.0) both.1 gave.1),
      subst (λ (k : ℕ). Gave z k gave.0 c.release_two.new.lane) both.0 gave.2,
    )

pub returns-clause-goes : goal.returns-clause-goes
returns-clause-goes g c =
    let both = c.in_ok-one.ensures.both in
    (back-two c.args.keys.0 c.args.keys.1 c.in_ok-one.one.key c.in_ok-one.other.key both.0 both.1 (c.in_ok-one.ensures.lends refl) c.release_two.ensures.returns).goes

pub returns-clause-holds : goal.returns-clause-holds
returns-clause-holds g c =
    let both = c.in_ok-one.ensures.both in
    (back-two c.args.keys.0 c.args.keys.1 c.in_ok-one.one.key c.in_ok-one.other.key both.0 both.1 (c.in_ok-one.ensures.lends refl) c.release_two.ensures.returns).held

pub returns-clause-fillings : goal.returns-clause-fillings
returns-clause-fillings g c =
    let both = c.in_ok-one.ensures.both in
    (back-two c.args.keys.0 c.args.keys.1 c.in_ok-one.one.key c.in_ok-one.other.key both.0 both.1 (c.in_ok-one.ensures.lends refl) c.release_two.ensures.returns).fillings
