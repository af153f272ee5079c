-- The pool's table is the guest's.
use Rattle.std.proofs.Common.{sym, ◌∙◌}
use Rattle.shardpool.proofs.pool.Pool.clear_by.Goals as goal

pub clear-requires : goal.clear-requires
clear-requires g c = record { of = (c.requires.owns.0 ∙ (λ i. (sym c.self.view_is i).table), c.requires.owns.1 ∙ (λ i. (sym c.self.view_is i).shape)) }
