-- The pool's table is the guest's.
use Rattle.std.proofs.Common.{sym, ◌∙◌}
use Rattle.shardpool.proofs.pool.Pool.release_of.Goals as goal

pub release-requires : goal.release-requires
release-requires g c = record { of = (c.requires.owns.0 ∙ (λ i. (sym c.self.view_is i).table), c.requires.owns.1 ∙ (λ i. (sym c.self.view_is i).shape), c.requires.directory ∙ (λ i. (sym c.self.view_is i).directory)) }
