use Rattle.std.proofs.Common.{◌≡◌, ◌≤◌}
use Rattle.std.specs.Vec.{vec_capacity}
use Rattle.poolsteps.specs.Layout.{page_rows}
use Rattle.poolsteps.proofs.layout.page_rows.Given as goal

-- the rows of the pages before this one stand there
abbrev pub invariant-loop-page : goal.invariant-loop-page
invariant-loop-page l = record { rows : l.rows.items ≡ page_rows l.shape l.page; room : l.count ≤ vec_capacity l.rows }
