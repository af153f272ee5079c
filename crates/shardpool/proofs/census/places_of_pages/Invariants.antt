-- The places of the pages so far are counted.
use Rattle.std.proofs.Common.{◌≡◌}
use Rattle.keybits.specs.Shapes.{page_start}
use Rattle.shardpool.proofs.census.places_of_pages.Given as goal

abbrev pub invariant-loop-page : goal.invariant-loop-page
invariant-loop-page l = l.places ≡ page_start l.shape l.page
