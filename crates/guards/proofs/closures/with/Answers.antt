use Rattle.std.proofs.Common.{ℕ, true, is_some, refl, sym, ap, ◌∙◌, subst, arith}
use mathlib.Core.Bool.{true≢false}
use Rattle.seqpool.specs.Histories.{PublishedAt}
use Rattle.shardpool.proofs.references.Holdings.{got-inside}
use Rattle.shardpool.proofs.frame.Standing.{published-later, found-later}
use Rattle.poolsteps.proofs.ViewLemmas.{prefix-trans}
use Rattle.guards.proofs.Guarding.{given-back, uses}
use Rattle.guards.proofs.closures.with.Goals as goal

pub returns-clause-some : goal.returns-clause-some
returns-clause-some g c =
    let inside = got-inside c.args.pool.now.shape c.args.key c.args.lane.now c.get.new.lane c.in_ok-reference.reference c.in_ok-reference.ensures.outside in
    let gets = c.in_ok-reference.ensures.gets inside in
    let read = c.read.ensures in
    let x = c.read.result.now in (
      x,
      read.0,
      subst (λ (k : ℕ). PublishedAt c.release.new.lane.book.seen read.0 k (g.T.Clear.content x)) gets.0
          (published-later c.get.new.lane.book.seen c.release.new.lane.book.seen read.0 c.in_ok-reference.reference.key (g.T.Clear.content x) c.release.ensures.seen read.1),
      (c.read.result, c.f-answer.ensures, refl),
    )

pub returns-clause-holds : goal.returns-clause-holds
returns-clause-holds g c other =
    let got = c.in_ok-reference.ensures in
    given-back c.args.key c.in_ok-reference.reference.key other _ _ _ got.held.0 (got.one_more (refl {a = true}) other) (c.release.ensures.one_less other)

pub returns-clause-found : goal.returns-clause-found
returns-clause-found g c some = found-later c.release.ensures.seen (c.in_ok-reference.ensures.found (refl {a = true}))

pub returns-clause-seen : goal.returns-clause-seen
returns-clause-seen g c = prefix-trans _ _ _ c.in_ok-reference.ensures.seen c.release.ensures.seen

-- ---- what its parts ask for

pub get-requires-clause-owns : goal.get-requires-clause-owns
get-requires-clause-owns g c = c.requires.owns

pub get-requires-clause-room : goal.get-requires-clause-room
get-requires-clause-room g c = c.requires.room

pub read-requires : goal.read-requires
read-requires g c = c.in_ok-reference.ensures.held.1

pub f-answer-requires : goal.f-answer-requires
f-answer-requires g c = c.requires.may.at _

pub release-requires-clause-owns : goal.release-requires-clause-owns
release-requires-clause-owns g c = c.in_ok-reference.ensures.owns

pub release-requires-clause-held : goal.release-requires-clause-held
release-requires-clause-held g c = c.in_ok-reference.ensures.held.1

-- ---- the get found none

pub returns-in_err-reference-clause-owns : goal.returns-in_err-reference-clause-owns
returns-in_err-reference-clause-owns g c = c.in_err-reference.ensures.owns

pub returns-in_err-reference-clause-same : goal.returns-in_err-reference-clause-same
returns-in_err-reference-clause-same g c = c.in_err-reference.ensures.same

pub returns-in_err-reference-clause-outside : goal.returns-in_err-reference-clause-outside
returns-in_err-reference-clause-outside g c = λ out. (ap is_some c.from_residual.ensures, (c.in_err-reference.ensures.outside out).1)

pub returns-in_err-reference-clause-some : goal.returns-in_err-reference-clause-some
returns-in_err-reference-clause-some g c = rw c.from_residual.ensures tt

pub returns-in_err-reference-clause-found : goal.returns-in_err-reference-clause-found
returns-in_err-reference-clause-found g c = λ some. absurd (true≢false (sym some ∙ ap is_some c.from_residual.ensures))

pub returns-in_err-reference-clause-missed : goal.returns-in_err-reference-clause-missed
returns-in_err-reference-clause-missed g c = λ none. c.in_err-reference.ensures.missed refl

pub returns-in_err-reference-clause-seen : goal.returns-in_err-reference-clause-seen
returns-in_err-reference-clause-seen g c = c.in_err-reference.ensures.seen

pub returns-in_err-reference-clause-called : goal.returns-in_err-reference-clause-called
returns-in_err-reference-clause-called g c = λ none inside. c.in_err-reference.ensures.called inside

pub returns-in_err-reference-clause-gets : goal.returns-in_err-reference-clause-gets
returns-in_err-reference-clause-gets g c = λ inside. rw c.from_residual.ensures (c.in_err-reference.ensures.gets inside)

pub returns-in_err-reference-clause-refs : goal.returns-in_err-reference-clause-refs
returns-in_err-reference-clause-refs g c = let same = c.in_err-reference.ensures.refs in omega (arith, same)

pub returns-in_err-reference-clause-holds : goal.returns-in_err-reference-clause-holds
returns-in_err-reference-clause-holds g c = c.in_err-reference.ensures.no_more refl

pub returns-in_err-reference-clause-fillings : goal.returns-in_err-reference-clause-fillings
returns-in_err-reference-clause-fillings g c = c.in_err-reference.ensures.fillings

-- ---- it found the key

pub returns-clause-owns : goal.returns-clause-owns
returns-clause-owns g c = c.release.ensures.owns

pub returns-clause-same : goal.returns-clause-same
returns-clause-same g c =
    let first = c.in_ok-reference.ensures.same in
    let then = c.release.ensures.releases.1.same in (then.0 ∙ first.0, then.1 ∙ first.1, then.2 ∙ first.2, then.3 ∙ first.3)

pub returns-clause-outside : goal.returns-clause-outside
returns-clause-outside g c = λ out. absurd (true≢false (c.in_ok-reference.ensures.outside out).0)

pub returns-clause-missed : goal.returns-clause-missed
returns-clause-missed g c = λ none. absurd (true≢false none)

pub returns-clause-called : goal.returns-clause-called
returns-clause-called g c = λ none inside. absurd (true≢false none)

pub returns-clause-gets : goal.returns-clause-gets
returns-clause-gets g c = λ inside.
    let got = c.in_ok-reference.ensures in
    uses c.args.pool.now.shape c.args.key c.args.lane.now c.get.new.lane c.release.new.lane c.in_ok-reference.reference c.requires.owns.1 (got.called inside) (got.gets inside) got.same.2
    c.release.ensures.called c.release.ensures.releases.0 c.release.ensures.releases.1

pub returns-clause-refs : goal.returns-clause-refs
returns-clause-refs g c = let more = c.in_ok-reference.ensures.refs in let less = c.release.ensures.refs in omega (arith, more, less)

pub returns-clause-fillings : goal.returns-clause-fillings
returns-clause-fillings g c filling made = c.release.ensures.fillings filling (c.in_ok-reference.ensures.fillings filling made)
