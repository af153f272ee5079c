-- A clear, or another before it, has cleared a key that was published.
use Rattle.std.proofs.Common.{◌≡◌, true, subst}
use Rattle.keybits.specs.Keys.{is_key}
use Rattle.shardpool.specs.Tokens.{PoolOf}
use Rattle.guards.specs.Seated.{Clears}
use Rattle.poollaws.proofs.Clearing.{key-cleared}
use Rattle.guards.proofs.Seating.{clear-goes, cleared-then}
use Rattle.guards.proofs.seats.Seat.clear.Goals as goal

pub returns-clause-gone : goal.returns-clause-gone
returns-clause-gone g c = λ content published. cleared-then c.clear.result c.clear.ensures.seen c.clear.ensures.cleared c.clear.ensures.missed content published

pub returns-clause-clears : goal.returns-clause-clears
returns-clause-clears g c =
    subst (λ (pool : PoolOf). is_key pool.shape c.args.key ≡ true → Clears pool.shape c.args.key c.clear.result c.args.self.now.lane c.clear.new.lane) c.args.self.now.pool_is
    (λ inside. let did = c.clear.ensures.clears inside in record { called = c.clear.ensures.called inside; rest = did.0; did = did.1 })

pub returns-clause-keeps : goal.returns-clause-keeps
returns-clause-keeps g c = record { fillings = c.clear.ensures.fillings; held = c.clear.ensures.held }

pub returns-clause-goes : goal.returns-clause-goes
returns-clause-goes g c = clear-goes c.args.self.now.pool.now.shape c.args.key c.clear.result c.args.self.now.lane c.clear.new.lane c.clear.ensures.outside c.clear.ensures.clears

pub returns-clause-key_cleared : goal.returns-clause-key_cleared
returns-clause-key_cleared g c = key-cleared c.args.self.now.pool.now c.args.key c.args.self.now.lane c.clear.new.lane c.clear.result c.clear.ensures
