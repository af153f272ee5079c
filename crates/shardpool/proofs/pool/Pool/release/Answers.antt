-- A release is one at the place of the reference.
use Rattle.std.proofs.Common.{ℕ, subst}
use Rattle.shardpool.specs.AfterCalls.{AfterRelease}
use Rattle.shardpool.proofs.pool.Pool.release.Goals as goal

pub release_at-requires-clause-owns : goal.release_at-requires-clause-owns
release_at-requires-clause-owns g c = c.requires.owns

pub release_at-requires-clause-held : goal.release_at-requires-clause-held
release_at-requires-clause-held g c = rw c.spend.ensures c.requires.held

pub returns : goal.returns
returns g c = subst (λ (key : ℕ). AfterRelease g.row.T.Denot c.args.self.now key c.args.lane.now c.release_at.new.lane) c.spend.ensures c.release_at.ensures
