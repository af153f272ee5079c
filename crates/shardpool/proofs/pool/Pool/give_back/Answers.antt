-- The pool's table is the guest's.
use Rattle.std.proofs.Common.{sym, ◌∙◌}
use Rattle.shardpool.proofs.pool.Pool.give_back.Goals as goal

pub give_back-requires-clause-table : goal.give_back-requires-clause-table
give_back-requires-clause-table g c = c.requires.owns.0 ∙ (λ i. (sym c.self.view_is i).table)

pub give_back-requires-clause-grid : goal.give_back-requires-clause-grid
give_back-requires-clause-grid g c = (c.requires.owns.1 ∙ (λ i. (sym c.self.view_is i).shape), c.requires.directory ∙ (λ i. (sym c.self.view_is i).directory))
