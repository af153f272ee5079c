-- What the gets gave, or gave back.
use Rattle.std.proofs.Common.{ℕ, Some, None, ◌≤◌, [], refl, sym, subst, inl, inr, arith}
use Rattle.shardpool.specs.Lanes.{holds}
use Rattle.shardpool.proofs.references.Holdings.{got-inside}
use Rattle.poollaws.proofs.Ends.{missed-law}
use Rattle.guards.specs.Several.{Gave}
use Rattle.guards.proofs.Lending.{lends-more, lends-back, lends-one, lends-missed, returns-of, has-all, first-held, gone-around}
use Rattle.guards.proofs.Seating.{get-goes, goes-on}
use Rattle.guards.proofs.several.get_two.Goals as goal

pub returns-in_err-one-clause-gone : goal.returns-in_err-one-clause-gone
returns-in_err-one-clause-gone g c = λ none. (
  c.args.first,
  (0, omega arith, refl),
  missed-law c.args.first c.args.lane.now c.get.new.lane c.in_err-one.ensures.seen (c.in_err-one.ensures.missed refl),
)

pub returns-in_err-one-clause-none : goal.returns-in_err-one-clause-none
returns-in_err-one-clause-none g c = λ none.
    let missed = c.in_err-one.ensures in
    lends-missed missed.owns missed.same (get-goes c.args.pool.now.shape c.args.first c.args.lane.now c.get.new.lane None missed.outside missed.gets) missed.refs (missed.no_more refl) missed.fillings

pub returns-in_err-one-clause-tries : goal.returns-in_err-one-clause-tries
returns-in_err-one-clause-tries g c = λ none.
    let missed = c.in_err-one.ensures in inl (record { outside = λ out. (missed.outside out).1; called = missed.called; gets = missed.gets })

-- ---- the second get found none

pub returns-in_default-clause-none : goal.returns-in_default-clause-none
returns-in_default-clause-none g c = λ none.
    let first = c.in_ok-one.ensures in
    let second = c.in_default.ensures in
    let one = c.in_ok-one.one in
    let is = first.held.0 in
    let lent = lends-one {pool = c.args.pool.now} {new = c.get.new.lane} c.args.first first.owns first.same (get-goes c.args.pool.now.shape c.args.first c.args.lane.now c.get.new.lane (Some c.in_ok-one.one) first.outside first.gets) first.refs (first.one_more refl) first.fillings in
    let both = lends-more lent (lends-missed second.owns second.same (get-goes c.args.pool.now.shape c.args.second c.get.new.lane c.get-2.new.lane None second.outside second.gets) second.refs (second.no_more refl) second.fillings) in
    let some = first-held [] c.args.first (holds c.get-2.new.lane c.args.first) (has-all both c.args.first) in
    let gave = c.release.ensures in
    lends-back both (returns-of c.args.first one.key is (subst (λ (k : ℕ). 1 ≤ holds c.get-2.new.lane k) (sym is) some) gave.owns gave.releases.1.same (goes-on gave.releases.1.goes) gave.refs gave.one_less gave.fillings)

pub returns-in_default-clause-gone : goal.returns-in_default-clause-gone
returns-in_default-clause-gone g c = λ none. (
  c.args.second,
  (1, omega arith, refl),
  gone-around c.args.lane.now.book.seen c.get.new.lane.book.seen c.get-2.new.lane.book.seen c.release.new.lane.book.seen c.args.second c.in_ok-one.ensures.seen c.release.ensures.seen
      (missed-law c.args.second c.get.new.lane c.get-2.new.lane c.in_default.ensures.seen (c.in_default.ensures.missed refl)),
)

pub returns-in_default-clause-tries : goal.returns-in_default-clause-tries
returns-in_default-clause-tries g c = λ none.
    let first = c.in_ok-one.ensures in
    let second = c.in_default.ensures in
    let gave = c.release.ensures in
    let z = c.args.pool.now.shape in
    let inside = got-inside z c.args.first c.args.lane.now c.get.new.lane c.in_ok-one.one first.outside in inr (
      c.get.new.lane,
      c.get-2.new.lane,
      record { called = first.called inside; reference = c.in_ok-one.one; gets = first.gets inside },
      inl (record { outside = λ out. (second.outside out).1; called = second.called; gets = second.gets }),
      subst (λ (k : ℕ). Gave z k c.get-2.new.lane c.release.new.lane) first.held.0 (record { called = gave.called; rest = gave.releases.0; did = gave.releases.1 }),
    )

-- ---- both found one

pub returns-clause-lends : goal.returns-clause-lends
returns-clause-lends g c = λ some.
    let first = c.in_ok-one.ensures in
    let second = c.in-Some.ensures in
    lends-more (lends-one {pool = c.args.pool.now} {new = c.get.new.lane} c.args.first first.owns first.same (get-goes c.args.pool.now.shape c.args.first c.args.lane.now c.get.new.lane (Some c.in_ok-one.one) first.outside first.gets) first.refs (first.one_more refl) first.fillings)
    (lends-one c.args.second second.owns second.same (get-goes c.args.pool.now.shape c.args.second c.get.new.lane c.get-2.new.lane (Some c.in-Some.other) second.outside second.gets) second.refs (second.one_more refl) second.fillings)

pub returns-clause-got : goal.returns-clause-got
returns-clause-got g c = λ some.
    let first = c.in_ok-one.ensures in
    let second = c.in-Some.ensures in
    let z = c.args.pool.now.shape in
    let inside = got-inside z c.args.first c.args.lane.now c.get.new.lane c.in_ok-one.one first.outside in
    let within = got-inside z c.args.second c.get.new.lane c.get-2.new.lane c.in-Some.other second.outside in (
      c.get.new.lane,
      record { called = first.called inside; reference = c.in_ok-one.one; gets = first.gets inside },
      record { called = second.called within; reference = c.in-Some.other; gets = second.gets within },
    )
