-- What was lent is given back, and was published.
use Rattle.std.proofs.Common.{Some, None, ℕ, [], ◌∷◌, refl, subst, inl, arith}
use Rattle.poolsteps.proofs.ViewLemmas.{prefix-trans}
use Rattle.shardpool.proofs.references.Holdings.{got-inside}
use Rattle.poollaws.proofs.Ends.{missed-law}
use Rattle.guards.specs.Several.{Gave}
use Rattle.guards.proofs.Lending.{lends-more, lends-one, lends-missed, lends-back, returns-of, has-one, has-two, back-two, tries-sooner, tries-behind, read-later, gone-around}
use Rattle.guards.proofs.Seating.{get-goes, goes-on}
use Rattle.guards.proofs.several.with_three.Goals as goal

-- ---- one of the first two gets found none

pub returns-in_err-one-clause-tries : goal.returns-in_err-one-clause-tries
returns-in_err-one-clause-tries g c = λ none.
    tries-sooner c.args.pool.now.shape (c.args.keys.0 ∷ c.args.keys.1 ∷ []) (c.args.keys.2 ∷ []) c.args.lane.now c.get_two.new.lane (c.in_err-one.ensures.tries refl)

-- ---- the last get found none

pub release_two-requires-clause-held : goal.release_two-requires-clause-held
release_two-requires-clause-held g c =
    let both = c.in_ok-one.ensures.both in
    let none = c.in_default.ensures in
    has-two c.args.keys.0 c.args.keys.1 c.in_ok-one.one.key c.in_ok-one.two.key both.0 both.1
    (lends-more (c.in_ok-one.ensures.lends refl) (lends-missed none.owns none.same (get-goes c.args.pool.now.shape c.args.keys.2 c.get_two.new.lane c.get.new.lane None none.outside none.gets) none.refs (none.no_more refl) none.fillings))

pub returns-in_default-clause-gone : goal.returns-in_default-clause-gone
returns-in_default-clause-gone g c = λ none. (
  c.args.keys.2,
  (2, omega arith, refl),
  gone-around c.args.lane.now.book.seen c.get_two.new.lane.book.seen c.get.new.lane.book.seen c.release_two.new.lane.book.seen c.args.keys.2 (c.in_ok-one.ensures.lends refl).goes.seen
      c.release_two.ensures.returns.goes.seen (missed-law c.args.keys.2 c.get_two.new.lane c.get.new.lane c.in_default.ensures.seen (c.in_default.ensures.missed refl)),
)

pub returns-in_default-clause-tries : goal.returns-in_default-clause-tries
returns-in_default-clause-tries g c = λ none.
    let both = c.in_ok-one.ensures.both in
    let third = c.in_default.ensures in
    tries-behind c.args.pool.now.shape c.args.keys.0 c.args.keys.1 c.in_ok-one.one.key c.in_ok-one.two.key (c.args.keys.2 ∷ []) c.args.lane.now c.get_two.new.lane c.get.new.lane c.release_two.new.lane
    both.0 both.1 (c.in_ok-one.ensures.got refl) (inl (record { outside = λ out. (third.outside out).1; called = third.called; gets = third.gets })) c.release_two.ensures.gave

pub returns-in_default-clause-owns : goal.returns-in_default-clause-owns
returns-in_default-clause-owns g c =
    let both = c.in_ok-one.ensures.both in
    let none = c.in_default.ensures in
    (back-two c.args.keys.0 c.args.keys.1 c.in_ok-one.one.key c.in_ok-one.two.key both.0 both.1
    (lends-more (c.in_ok-one.ensures.lends refl) (lends-missed none.owns none.same (get-goes c.args.pool.now.shape c.args.keys.2 c.get_two.new.lane c.get.new.lane None none.outside none.gets) none.refs (none.no_more refl) none.fillings)) c.release_two.ensures.returns).owns

pub returns-in_default-clause-same : goal.returns-in_default-clause-same
returns-in_default-clause-same g c =
    let both = c.in_ok-one.ensures.both in
    let none = c.in_default.ensures in
    (back-two c.args.keys.0 c.args.keys.1 c.in_ok-one.one.key c.in_ok-one.two.key both.0 both.1
    (lends-more (c.in_ok-one.ensures.lends refl) (lends-missed none.owns none.same (get-goes c.args.pool.now.shape c.args.keys.2 c.get_two.new.lane c.get.new.lane None none.outside none.gets) none.refs (none.no_more refl) none.fillings)) c.release_two.ensures.returns).same

pub returns-in_default-clause-goes : goal.returns-in_default-clause-goes
returns-in_default-clause-goes g c =
    let both = c.in_ok-one.ensures.both in
    let none = c.in_default.ensures in
    (back-two c.args.keys.0 c.args.keys.1 c.in_ok-one.one.key c.in_ok-one.two.key both.0 both.1
    (lends-more (c.in_ok-one.ensures.lends refl) (lends-missed none.owns none.same (get-goes c.args.pool.now.shape c.args.keys.2 c.get_two.new.lane c.get.new.lane None none.outside none.gets) none.refs (none.no_more refl) none.fillings)) c.release_two.ensures.returns).goes

pub returns-in_default-clause-holds : goal.returns-in_default-clause-holds
returns-in_default-clause-holds g c =
    let both = c.in_ok-one.ensures.both in
    let none = c.in_default.ensures in
    (back-two c.args.keys.0 c.args.keys.1 c.in_ok-one.one.key c.in_ok-one.two.key both.0 both.1
    (lends-more (c.in_ok-one.ensures.lends refl) (lends-missed none.owns none.same (get-goes c.args.pool.now.shape c.args.keys.2 c.get_two.new.lane c.get.new.lane None none.outside none.gets) none.refs (none.no_more refl) none.fillings)) c.release_two.ensures.returns).held

pub returns-in_default-clause-fillings : goal.returns-in_default-clause-fillings
returns-in_default-clause-fillings g c =
    let both = c.in_ok-one.ensures.both in
    let none = c.in_default.ensures in
    (back-two c.args.keys.0 c.args.keys.1 c.in_ok-one.one.key c.in_ok-one.two.key both.0 both.1
    (lends-more (c.in_ok-one.ensures.lends refl) (lends-missed none.owns none.same (get-goes c.args.pool.now.shape c.args.keys.2 c.get_two.new.lane c.get.new.lane None none.outside none.gets) none.refs (none.no_more refl) none.fillings)) c.release_two.ensures.returns).fillings

-- ---- all were found

pub read-requires : goal.read-requires
read-requires g c =
    let third = c.in-Some.ensures in
    has-one (lends-more (c.in_ok-one.ensures.lends refl) (lends-one c.args.keys.2 third.owns third.same (get-goes c.args.pool.now.shape c.args.keys.2 c.get_two.new.lane c.get.new.lane (Some c.in-Some.three) third.outside third.gets) third.refs (third.one_more refl) third.fillings))
    2 c.args.keys.0 c.in_ok-one.one.key refl c.in_ok-one.ensures.both.0

pub read-requires-2 : goal.read-requires-2
read-requires-2 g c =
    let third = c.in-Some.ensures in
    has-one (lends-more (c.in_ok-one.ensures.lends refl) (lends-one c.args.keys.2 third.owns third.same (get-goes c.args.pool.now.shape c.args.keys.2 c.get_two.new.lane c.get.new.lane (Some c.in-Some.three) third.outside third.gets) third.refs (third.one_more refl) third.fillings))
    1 c.args.keys.1 c.in_ok-one.two.key refl c.in_ok-one.ensures.both.1

pub release_two-requires-2-clause-held : goal.release_two-requires-2-clause-held
release_two-requires-2-clause-held g c =
    let both = c.in_ok-one.ensures.both in
    has-two c.args.keys.0 c.args.keys.1 c.in_ok-one.one.key c.in_ok-one.two.key both.0 both.1 (lends-more (c.in_ok-one.ensures.lends refl)
    (let third = c.in-Some.ensures in
    let gave = c.release.ensures in
    let lent = lends-one {pool = c.args.pool.now} {new = c.get.new.lane} c.args.keys.2 third.owns third.same (get-goes c.args.pool.now.shape c.args.keys.2 c.get_two.new.lane c.get.new.lane (Some c.in-Some.three) third.outside third.gets) third.refs (third.one_more refl) third.fillings in
    lends-back lent (returns-of c.args.keys.2 c.in-Some.three.key third.held.0 (has-one lent 0 c.args.keys.2 c.in-Some.three.key refl third.held.0)
    gave.owns gave.releases.1.same (goes-on gave.releases.1.goes) gave.refs gave.one_less gave.fillings)))

pub returns-clause-some : goal.returns-clause-some
returns-clause-some g c =
    let both = c.in_ok-one.ensures.both in
    let last = c.in-Some.ensures.held in
    let then = c.get.new.lane.book.seen in
    let new = c.release_two-2.new.lane.book.seen in
    let seen = prefix-trans then c.release.new.lane.book.seen new c.release.ensures.seen c.release_two-2.ensures.returns.goes.seen in (
      c.read.result,
      c.read-2.result,
      c.read-3.result,
      c.f-answer.ensures,
      read-later then new (g.T.Clear.content c.read.result.now) c.in_ok-one.one.key c.args.keys.0 both.0 seen c.read.ensures,
      read-later then new (g.T.Clear.content c.read-2.result.now) c.in_ok-one.two.key c.args.keys.1 both.1 seen c.read-2.ensures,
      read-later then new (g.T.Clear.content c.read-3.result.now) c.in-Some.three.key c.args.keys.2 last.0 seen c.read-3.ensures,
    )

pub returns-clause-uses : goal.returns-clause-uses
returns-clause-uses g c = λ some.
    let both = c.in_ok-one.ensures.both in
    let got = c.in_ok-one.ensures.got refl in
    let third = c.in-Some.ensures in
    let gave = c.release.ensures in
    let rest = c.release_two-2.ensures.gave in
    let z = c.args.pool.now.shape in
    let a = c.get_two.new.lane in
    let b = c.get.new.lane in
    let left = c.release.new.lane in
    let within = got-inside z c.args.keys.2 a b c.in-Some.three third.outside in (
      got.0,
      rest.0,
      got.1,
      (
        a,
        left,
        got.2,
        (
          b,
          b,
          record { called = third.called within; reference = c.in-Some.three; gets = third.gets within },
          refl,
          subst (λ (k : ℕ). Gave z k b left) third.held.0 (record { called = gave.called; rest = gave.releases.0; did = gave.releases.1 }),
        ),
        subst (λ (k : ℕ). Gave z k left rest.0) both.1 rest.1,
      ),
      subst (λ (k : ℕ). Gave z k rest.0 c.release_two-2.new.lane) both.0 rest.2,
    )

pub returns-clause-owns : goal.returns-clause-owns
returns-clause-owns g c =
    let both = c.in_ok-one.ensures.both in
    (back-two c.args.keys.0 c.args.keys.1 c.in_ok-one.one.key c.in_ok-one.two.key both.0 both.1 (lends-more (c.in_ok-one.ensures.lends refl)
    (let third = c.in-Some.ensures in
    let gave = c.release.ensures in
    let lent = lends-one {pool = c.args.pool.now} {new = c.get.new.lane} c.args.keys.2 third.owns third.same (get-goes c.args.pool.now.shape c.args.keys.2 c.get_two.new.lane c.get.new.lane (Some c.in-Some.three) third.outside third.gets) third.refs (third.one_more refl) third.fillings in
    lends-back lent (returns-of c.args.keys.2 c.in-Some.three.key third.held.0 (has-one lent 0 c.args.keys.2 c.in-Some.three.key refl third.held.0)
    gave.owns gave.releases.1.same (goes-on gave.releases.1.goes) gave.refs gave.one_less gave.fillings)))
    c.release_two-2.ensures.returns).owns

pub returns-clause-same : goal.returns-clause-same
returns-clause-same g c =
    let both = c.in_ok-one.ensures.both in
    (back-two c.args.keys.0 c.args.keys.1 c.in_ok-one.one.key c.in_ok-one.two.key both.0 both.1 (lends-more (c.in_ok-one.ensures.lends refl)
    (let third = c.in-Some.ensures in
    let gave = c.release.ensures in
    let lent = lends-one {pool = c.args.pool.now} {new = c.get.new.lane} c.args.keys.2 third.owns third.same (get-goes c.args.pool.now.shape c.args.keys.2 c.get_two.new.lane c.get.new.lane (Some c.in-Some.three) third.outside third.gets) third.refs (third.one_more refl) third.fillings in
    lends-back lent (returns-of c.args.keys.2 c.in-Some.three.key third.held.0 (has-one lent 0 c.args.keys.2 c.in-Some.three.key refl third.held.0)
    gave.owns gave.releases.1.same (goes-on gave.releases.1.goes) gave.refs gave.one_less gave.fillings)))
    c.release_two-2.ensures.returns).same

pub returns-clause-goes : goal.returns-clause-goes
returns-clause-goes g c =
    let both = c.in_ok-one.ensures.both in
    (back-two c.args.keys.0 c.args.keys.1 c.in_ok-one.one.key c.in_ok-one.two.key both.0 both.1 (lends-more (c.in_ok-one.ensures.lends refl)
    (let third = c.in-Some.ensures in
    let gave = c.release.ensures in
    let lent = lends-one {pool = c.args.pool.now} {new = c.get.new.lane} c.args.keys.2 third.owns third.same (get-goes c.args.pool.now.shape c.args.keys.2 c.get_two.new.lane c.get.new.lane (Some c.in-Some.three) third.outside third.gets) third.refs (third.one_more refl) third.fillings in
    lends-back lent (returns-of c.args.keys.2 c.in-Some.three.key third.held.0 (has-one lent 0 c.args.keys.2 c.in-Some.three.key refl third.held.0)
    gave.owns gave.releases.1.same (goes-on gave.releases.1.goes) gave.refs gave.one_less gave.fillings)))
    c.release_two-2.ensures.returns).goes

pub returns-clause-holds : goal.returns-clause-holds
returns-clause-holds g c =
    let both = c.in_ok-one.ensures.both in
    (back-two c.args.keys.0 c.args.keys.1 c.in_ok-one.one.key c.in_ok-one.two.key both.0 both.1 (lends-more (c.in_ok-one.ensures.lends refl)
    (let third = c.in-Some.ensures in
    let gave = c.release.ensures in
    let lent = lends-one {pool = c.args.pool.now} {new = c.get.new.lane} c.args.keys.2 third.owns third.same (get-goes c.args.pool.now.shape c.args.keys.2 c.get_two.new.lane c.get.new.lane (Some c.in-Some.three) third.outside third.gets) third.refs (third.one_more refl) third.fillings in
    lends-back lent (returns-of c.args.keys.2 c.in-Some.three.key third.held.0 (has-one lent 0 c.args.keys.2 c.in-Some.three.key refl third.held.0)
    gave.owns gave.releases.1.same (goes-on gave.releases.1.goes) gave.refs gave.one_less gave.fillings)))
    c.release_two-2.ensures.returns).held

pub returns-clause-fillings : goal.returns-clause-fillings
returns-clause-fillings g c =
    let both = c.in_ok-one.ensures.both in
    (back-two c.args.keys.0 c.args.keys.1 c.in_ok-one.one.key c.in_ok-one.two.key both.0 both.1 (lends-more (c.in_ok-one.ensures.lends refl)
    (let third = c.in-Some.ensures in
    let gave = c.release.ensures in
    let lent = lends-one {pool = c.args.pool.now} {new = c.get.new.lane} c.args.keys.2 third.owns third.same (get-goes c.args.pool.now.shape c.args.keys.2 c.get_two.new.lane c.get.new.lane (Some c.in-Some.three) third.outside third.gets) third.refs (third.one_more refl) third.fillings in
    lends-back lent (returns-of c.args.keys.2 c.in-Some.three.key third.held.0 (has-one lent 0 c.args.keys.2 c.in-Some.three.key refl third.held.0)
    gave.owns gave.releases.1.same (goes-on gave.releases.1.goes) gave.refs gave.one_less gave.fillings)))
    c.release_two-2.ensures.returns).fillings
