-- So many entries stand there, and there is room for all.
use Rattle.std.proofs.Common.{◌≡◌, ◌≤◌, replicate}
use Rattle.std.specs.Vec.{vec_capacity}
use Rattle.poolsteps.specs.declared.rows.Own.TheVariants.{Away}
use Rattle.poolsteps.proofs.rows.none_own.Given as goal

abbrev pub invariant-loop : goal.invariant-loop
invariant-loop g l = (l.row.items ≡ replicate l.counter Away) × (l.count ≤ vec_capacity l.row)
