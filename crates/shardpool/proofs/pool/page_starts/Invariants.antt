-- the starts of the pages before this one stand there
use Rattle.std.proofs.Common.{◌≡◌}
use Rattle.shardpool.specs.Rows.{starts_row}
use Rattle.shardpool.proofs.pool.page_starts.Given as goal

abbrev pub invariant-loop-page : goal.invariant-loop-page
invariant-loop-page l = l.starts ≡ starts_row l.shape l.page
