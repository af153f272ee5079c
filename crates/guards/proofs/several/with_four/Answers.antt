-- What was lent is given back, and was published.
use Rattle.std.proofs.Common.{ℕ, ◌∷◌, [], refl, subst}
use Rattle.std.proofs.lemmas.List.Elements.{Contains-append_right}
use Rattle.poolsteps.proofs.ViewLemmas.{prefix-trans}
use Rattle.guards.specs.Several.{Gave}
use Rattle.guards.proofs.Lending.{lends-more, has-one, has-two, back-two, tries-sooner, tries-behind, read-later, gone-around}
use Rattle.guards.proofs.several.with_four.Goals as goal

-- ---- one of the first two gets found none

pub returns-in_err-one-clause-tries : goal.returns-in_err-one-clause-tries
returns-in_err-one-clause-tries g c = λ none.
    tries-sooner c.args.pool.now.shape (c.args.keys.0 ∷ c.args.keys.1 ∷ []) (c.args.keys.2 ∷ c.args.keys.3 ∷ []) c.args.lane.now c.get_two.new.lane (c.in_err-one.ensures.tries refl)

-- ---- one of the last two found none

pub release_two-requires-clause-held : goal.release_two-requires-clause-held
release_two-requires-clause-held g c =
    let both = c.in_ok-one.ensures.both in
    has-two c.args.keys.0 c.args.keys.1 c.in_ok-one.one.key c.in_ok-one.two.key both.0 both.1 (lends-more (c.in_ok-one.ensures.lends refl) (c.in_default.ensures.none refl))

pub returns-in_default-clause-gone : goal.returns-in_default-clause-gone
returns-in_default-clause-gone g c = λ none.
    let gone = c.in_default.ensures.gone refl in (
      gone.0,
      Contains-append_right (c.args.keys.0 ∷ c.args.keys.1 ∷ []) (c.args.keys.2 ∷ c.args.keys.3 ∷ []) gone.0 gone.1,
      gone-around c.args.lane.now.book.seen c.get_two.new.lane.book.seen c.get_two-2.new.lane.book.seen c.release_two.new.lane.book.seen gone.0 (c.in_ok-one.ensures.lends refl).goes.seen
          c.release_two.ensures.returns.goes.seen gone.2,
    )

pub returns-in_default-clause-tries : goal.returns-in_default-clause-tries
returns-in_default-clause-tries g c = λ none.
    let both = c.in_ok-one.ensures.both in
    tries-behind c.args.pool.now.shape c.args.keys.0 c.args.keys.1 c.in_ok-one.one.key c.in_ok-one.two.key (c.args.keys.2 ∷ c.args.keys.3 ∷ []) c.args.lane.now c.get_two.new.lane c.get_two-2.new.lane
    c.release_two.new.lane both.0 both.1 (c.in_ok-one.ensures.got refl) (c.in_default.ensures.tries refl) c.release_two.ensures.gave

pub returns-in_default-clause-owns : goal.returns-in_default-clause-owns
returns-in_default-clause-owns g c =
    let both = c.in_ok-one.ensures.both in
    (back-two c.args.keys.0 c.args.keys.1 c.in_ok-one.one.key c.in_ok-one.two.key both.0 both.1 (lends-more (c.in_ok-one.ensures.lends refl) (c.in_default.ensures.none refl)) c.release_two.ensures.returns).owns

pub returns-in_default-clause-same : goal.returns-in_default-clause-same
returns-in_default-clause-same g c =
    let both = c.in_ok-one.ensures.both in
    (back-two c.args.keys.0 c.args.keys.1 c.in_ok-one.one.key c.in_ok-one.two.key both.0 both.1 (lends-more (c.in_ok-one.ensures.lends refl) (c.in_default.ensures.none refl)) c.release_two.ensures.returns).same

pub returns-in_default-clause-goes : goal.returns-in_default-clause-goes
returns-in_default-clause-goes g c =
    let both = c.in_ok-one.ensures.both in
    (back-two c.args.keys.0 c.args.keys.1 c.in_ok-one.one.key c.in_ok-one.two.key both.0 both.1 (lends-more (c.in_ok-one.ensures.lends refl) (c.in_default.ensures.none refl)) c.release_two.ensures.returns).goes

pub returns-in_default-clause-holds : goal.returns-in_default-clause-holds
returns-in_default-clause-holds g c =
    let both = c.in_ok-one.ensures.both in
    (back-two c.args.keys.0 c.args.keys.1 c.in_ok-one.one.key c.in_ok-one.two.key both.0 both.1 (lends-more (c.in_ok-one.ensures.lends refl) (c.in_default.ensures.none refl)) c.release_two.ensures.returns).held

pub returns-in_default-clause-fillings : goal.returns-in_default-clause-fillings
returns-in_default-clause-fillings g c =
    let both = c.in_ok-one.ensures.both in
    (back-two c.args.keys.0 c.args.keys.1 c.in_ok-one.one.key c.in_ok-one.two.key both.0 both.1 (lends-more (c.in_ok-one.ensures.lends refl) (c.in_default.ensures.none refl)) c.release_two.ensures.returns).fillings

-- ---- all were found

pub read-requires : goal.read-requires
read-requires g c = has-one (lends-more (c.in_ok-one.ensures.lends refl) (c.in-Some.ensures.lends refl)) 3 c.args.keys.0 c.in_ok-one.one.key refl c.in_ok-one.ensures.both.0

pub read-requires-2 : goal.read-requires-2
read-requires-2 g c = has-one (lends-more (c.in_ok-one.ensures.lends refl) (c.in-Some.ensures.lends refl)) 2 c.args.keys.1 c.in_ok-one.two.key refl c.in_ok-one.ensures.both.1

pub read-requires-3 : goal.read-requires-3
read-requires-3 g c = has-one (c.in-Some.ensures.lends refl) 1 c.args.keys.2 c.in-Some.three.key refl c.in-Some.ensures.both.0

pub read-requires-4 : goal.read-requires-4
read-requires-4 g c = has-one (c.in-Some.ensures.lends refl) 0 c.args.keys.3 c.in-Some.four.key refl c.in-Some.ensures.both.1

pub release_two-requires-2-clause-held : goal.release_two-requires-2-clause-held
release_two-requires-2-clause-held g c =
    let both = c.in-Some.ensures.both in has-two c.args.keys.2 c.args.keys.3 c.in-Some.three.key c.in-Some.four.key both.0 both.1 (c.in-Some.ensures.lends refl)

pub release_two-requires-3-clause-held : goal.release_two-requires-3-clause-held
release_two-requires-3-clause-held g c =
    let both = c.in_ok-one.ensures.both in
    let last = c.in-Some.ensures.both in
    has-two c.args.keys.0 c.args.keys.1 c.in_ok-one.one.key c.in_ok-one.two.key both.0 both.1
    (lends-more (c.in_ok-one.ensures.lends refl) (back-two c.args.keys.2 c.args.keys.3 c.in-Some.three.key c.in-Some.four.key last.0 last.1 (c.in-Some.ensures.lends refl) c.release_two-2.ensures.returns))

pub returns-clause-some : goal.returns-clause-some
returns-clause-some g c =
    let both = c.in_ok-one.ensures.both in
    let last = c.in-Some.ensures.both in
    let then = c.get_two-2.new.lane.book.seen in
    let new = c.release_two-3.new.lane.book.seen in
    let seen = prefix-trans then c.release_two-2.new.lane.book.seen new c.release_two-2.ensures.returns.goes.seen c.release_two-3.ensures.returns.goes.seen in (
      c.read.result,
      c.read-2.result,
      c.read-3.result,
      c.read-4.result,
      c.f-answer.ensures,
      read-later then new (g.T.Clear.content c.read.result.now) c.in_ok-one.one.key c.args.keys.0 both.0 seen c.read.ensures,
      read-later then new (g.T.Clear.content c.read-2.result.now) c.in_ok-one.two.key c.args.keys.1 both.1 seen c.read-2.ensures,
      read-later then new (g.T.Clear.content c.read-3.result.now) c.in-Some.three.key c.args.keys.2 last.0 seen c.read-3.ensures,
      read-later then new (g.T.Clear.content c.read-4.result.now) c.in-Some.four.key c.args.keys.3 last.1 seen c.read-4.ensures,
    )

pub returns-clause-uses : goal.returns-clause-uses
returns-clause-uses g c = λ some.
    let both = c.in_ok-one.ensures.both in
    let last = c.in-Some.ensures.both in
    let got = c.in_ok-one.ensures.got refl in
    let more = c.in-Some.ensures.got refl in
    let gave = c.release_two-2.ensures.gave in
    let rest = c.release_two-3.ensures.gave in
    let z = c.args.pool.now.shape in
    let a = c.get_two.new.lane in
    let b = c.get_two-2.new.lane in
    let left = c.release_two-2.new.lane in (
      got.0,
      rest.0,
      got.1,
      (
        a,
        left,
        got.2,
        (
          more.0,
          gave.0,
          more.1,
          (b, b, more.2, refl, subst (λ (k : ℕ). Gave z k b gave.0) last.1 gave.1),
          subst (λ (k : ℕ). Gave z k gave.0 left) last.0 gave.2,
        ),
        subst (λ (k : ℕ). Gave z k left rest.0) both.1 rest.1,
      ),
      subst (λ (k : ℕ). Gave z k rest.0 c.release_two-3.new.lane) both.0 rest.2,
    )

pub returns-clause-owns : goal.returns-clause-owns
returns-clause-owns g c =
    let both = c.in_ok-one.ensures.both in
    let last = c.in-Some.ensures.both in
    (back-two c.args.keys.0 c.args.keys.1 c.in_ok-one.one.key c.in_ok-one.two.key both.0 both.1
    (lends-more (c.in_ok-one.ensures.lends refl) (back-two c.args.keys.2 c.args.keys.3 c.in-Some.three.key c.in-Some.four.key last.0 last.1 (c.in-Some.ensures.lends refl) c.release_two-2.ensures.returns))
    c.release_two-3.ensures.returns).owns

pub returns-clause-same : goal.returns-clause-same
returns-clause-same g c =
    let both = c.in_ok-one.ensures.both in
    let last = c.in-Some.ensures.both in
    (back-two c.args.keys.0 c.args.keys.1 c.in_ok-one.one.key c.in_ok-one.two.key both.0 both.1
    (lends-more (c.in_ok-one.ensures.lends refl) (back-two c.args.keys.2 c.args.keys.3 c.in-Some.three.key c.in-Some.four.key last.0 last.1 (c.in-Some.ensures.lends refl) c.release_two-2.ensures.returns))
    c.release_two-3.ensures.returns).same

pub returns-clause-goes : goal.returns-clause-goes
returns-clause-goes g c =
    let both = c.in_ok-one.ensures.both in
    let last = c.in-Some.ensures.both in
    (back-two c.args.keys.0 c.args.keys.1 c.in_ok-one.one.key c.in_ok-one.two.key both.0 both.1
    (lends-more (c.in_ok-one.ensures.lends refl) (back-two c.args.keys.2 c.args.keys.3 c.in-Some.three.key c.in-Some.four.key last.0 last.1 (c.in-Some.ensures.lends refl) c.release_two-2.ensures.returns))
    c.release_two-3.ensures.returns).goes

pub returns-clause-holds : goal.returns-clause-holds
returns-clause-holds g c =
    let both = c.in_ok-one.ensures.both in
    let last = c.in-Some.ensures.both in
    (back-two c.args.keys.0 c.args.keys.1 c.in_ok-one.one.key c.in_ok-one.two.key both.0 both.1
    (lends-more (c.in_ok-one.ensures.lends refl) (back-two c.args.keys.2 c.args.keys.3 c.in-Some.three.key c.in-Some.four.key last.0 last.1 (c.in-Some.ensures.lends refl) c.release_two-2.ensures.returns))
    c.release_two-3.ensures.returns).held

pub returns-clause-fillings : goal.returns-clause-fillings
returns-clause-fillings g c =
    let both = c.in_ok-one.ensures.both in
    let last = c.in-Some.ensures.both in
    (back-two c.args.keys.0 c.args.keys.1 c.in_ok-one.one.key c.in_ok-one.two.key both.0 both.1
    (lends-more (c.in_ok-one.ensures.lends refl) (back-two c.args.keys.2 c.args.keys.3 c.in-Some.three.key c.in-Some.four.key last.0 last.1 (c.in-Some.ensures.lends refl) c.release_two-2.ensures.returns))
    c.release_two-3.ensures.returns).fillings
