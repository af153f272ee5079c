use Rattle.poolsteps.proofs.closing.out_cell.Goals as goal

pub out_resting-requires : goal.out_resting-requires
out_resting-requires g c = record {
  shape = c.requires.shape;
  place = c.requires.place;
  position = c.requires.position;
  row = c.requires.row;
  resting = c.requires.cell.resting c.if-word-eq0.true;
}

pub returns-then-word-eq0-clause-drains : goal.returns-then-word-eq0-clause-drains
returns-then-word-eq0-clause-drains g c = c.out_resting.ensures.drains

pub returns-in-Present-clause-drains : goal.returns-in-Present-clause-drains
returns-in-Present-clause-drains g c = c.out_spread.ensures.drains
