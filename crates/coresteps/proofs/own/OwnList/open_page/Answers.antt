-- The page's other places are all that is free.
use Rattle.std.proofs.Common.{refl, arith}
use Rattle.coresteps.proofs.OwnLemmas.{places_opened}
use Rattle.coresteps.proofs.own.OwnList.open_page.Goals as goal

pub returns-clause-place : goal.returns-clause-place
returns-clause-place c = (
  omega arith,
  c.place_number.ensures,
  refl,
  places_opened c.args.shape.now c.args.lane c.args.self.now.opened _ _ c.requires.empty,
)
