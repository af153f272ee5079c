-- The seat's pool is the named one.
use Rattle.std.proofs.Common.{◌∷◌, [], subst}
use Rattle.shardpool.specs.Tokens.{PoolOf}
use Rattle.guards.specs.Several.{UsesAll, TriesAll}
use Rattle.guards.proofs.seats.Seat.with_three.Goals as goal

pub returns-clause-uses : goal.returns-clause-uses
returns-clause-uses g c = λ some.
    subst (λ (pool : PoolOf). UsesAll pool.shape (c.args.keys.0 ∷ c.args.keys.1 ∷ c.args.keys.2 ∷ []) c.args.self.now.lane c.with_three.new.lane) c.args.self.now.pool_is (c.with_three.ensures.uses some)

pub returns-clause-tries : goal.returns-clause-tries
returns-clause-tries g c = λ none.
    subst (λ (pool : PoolOf). TriesAll pool.shape (c.args.keys.0 ∷ c.args.keys.1 ∷ c.args.keys.2 ∷ []) c.args.self.now.lane c.with_three.new.lane) c.args.self.now.pool_is (c.with_three.ensures.tries none)

pub returns-clause-some : goal.returns-clause-some
returns-clause-some g c = c.with_three.ensures.some

pub returns-clause-gone : goal.returns-clause-gone
returns-clause-gone g c = c.with_three.ensures.gone

pub returns-clause-keeps : goal.returns-clause-keeps
returns-clause-keeps g c = record { fillings = c.with_three.ensures.fillings; held = c.with_three.ensures.holds }

pub returns-clause-number : goal.returns-clause-number
returns-clause-number g c = c.with_three.ensures.same.2

pub returns-clause-goes : goal.returns-clause-goes
returns-clause-goes g c = c.with_three.ensures.goes
