-- The lane's invariant has the law.
use Rattle.std.proofs.Common.{◌≡◌, ◌≢◌, arith}
use mathlib.Core.Logic.{dite}
use native.Mathlib.Decide.{ℕ_discrete}
use Rattle.poolsteps.specs.Told.{references_seen}
use Rattle.shardpool.proofs.calls.Gets.{seen-within}
use Rattle.shardpool.proofs.calls.Releases.{place-inside}
use Rattle.shardpool.specs.declared.pool.LaneState.{LaneState}
use Rattle.shardpool.proofs.lending.LendingLane.held_law.Goals as goal

pub returns : goal.returns
returns g c =
    let fits = c.self.invariant.1.fits in
    let s : LaneState g.row.T.Denot = record c.self.inside.state { rows = c.self.invariant.1.rows } in
    rw (← c.self.view_is) (λ key. dite (ℕ_discrete (references_seen s.shape c.self.inside.hand.me.0 key) 0)
    (λ (none : references_seen s.shape c.self.inside.hand.me.0 key ≡ 0). omega (arith, none))
    (λ (some : references_seen s.shape c.self.inside.hand.me.0 key ≢ 0). seen-within fits key (place-inside s key fits (omega (arith, some)))))
