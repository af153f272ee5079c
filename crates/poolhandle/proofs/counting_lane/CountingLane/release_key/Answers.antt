-- The row of the key's place tells whether there is a reference, and has one less where it is given back.
use Rattle.std.proofs.Common.{◌≡◌, ◌==◌, ℕ, refl, sym, ap, subst, arith, if◌then◌else◌}
use Rattle.shardpool.specs.Tokens.{LaneOf}
use Rattle.shardpool.specs.Lanes.{Owns, holds}
use Rattle.shardpool.proofs.calls.AfterCalls.{key-released, key-unheld}
use Rattle.poolhandle.proofs.References.{row-low, row-counts, row-some, after-lose}
use Rattle.poolhandle.proofs.counting_lane.CountingLane.release_key.Given.{Over}
use Rattle.poolhandle.proofs.counting_lane.CountingLane.release_key.Goals.{After-count_to}
use Rattle.poolhandle.proofs.counting_lane.CountingLane.release_key.Goals as goal

pub count_to-requires : goal.count_to-requires
count_to-requires g c = row-low c.args.key c.in-Some.start c.self.invariant (c.in-Some.ensures.some.0 refl) c.in-Some.ensures.at

counted : (g : Over) (c : After-count_to g) → c.count_to.result ≡ holds c.self.inside.lane c.args.key
counted g c =
    row-counts c.args.key c.in-Some.start c.count_to.result c.self.invariant (c.in-Some.ensures.some.0 refl) c.in-Some.ensures.at
    (λ row stands. subst (λ (n : ℕ). c.count_to.result ≡ (if n == row.generation then row.count else 0)) c.generation_of.ensures (c.count_to.ensures row stands))

pub returns-then-count_to-eq0 : goal.returns-then-count_to-eq0
returns-then-count_to-eq0 g c =
    let is = counted g (goal.at.returns-then-count_to-eq0 g c).After-count_to in let none = c.if-count_to-eq0.true in let lane = ap (λ (l : LaneOf). holds l c.args.key) c.self.view_is in
    key-unheld c.requires.owns (λ some. absurd (omega (arith, is, none, some, lane)))

pub release_at-requires-clause-held : goal.release_at-requires-clause-held
release_at-requires-clause-held g c =
    let is = counted g (goal.at.release_at-requires-clause-held g c).After-count_to in let some = c.if-count_to-eq0.false in omega (arith, is, some)

pub lose-requires-clause-start : goal.lose-requires-clause-start
lose-requires-clause-start g c = row-low c.args.key c.in-Some.start c.self.invariant (c.in-Some.ensures.some.0 refl) c.in-Some.ensures.at

pub lose-requires-clause-some : goal.lose-requires-clause-some
lose-requires-clause-some g c =
    let is = counted g (goal.at.lose-requires-clause-some g c).After-count_to in let some = c.if-count_to-eq0.false in
    row-some c.args.key c.in-Some.start c.self.invariant (c.in-Some.ensures.some.0 refl) c.in-Some.ensures.at (omega (arith, is, some))

pub invariant_of-self : goal.invariant_of-self
invariant_of-self g c =
    let is = counted g (goal.at.invariant_of-self g c).After-count_to in let some = c.if-count_to-eq0.false in
    after-lose c.self.inside.lane c.release_at.new.lane c.self.inside.counts.items c.lose.new.counts.items c.release_at.ensures.same.1 c.self.invariant c.args.key c.in-Some.start
    (c.in-Some.ensures.some.0 refl) c.in-Some.ensures.at c.lose.ensures c.release_at.ensures.one_less (omega (arith, is, some))

pub returns : goal.returns
returns g c =
    let is = counted g (goal.at.returns g c).After-count_to in let some = c.if-count_to-eq0.false in
    let owns = subst (λ (lane : LaneOf). Owns c.args.pool.now lane) (sym c.self.view_is) c.requires.owns in
    rw (← c.self.view_is) (key-released owns (omega (arith, is, some)) c.release_at.ensures)
