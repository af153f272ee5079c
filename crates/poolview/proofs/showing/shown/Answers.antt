use Rattle.poolview.proofs.showing.shown.Goals as goal

pub returns-in-Picture-clause-err : goal.returns-in-Picture-clause-err
returns-in-Picture-clause-err c = rw c.in-Picture.is (c.drawn.ensures.err c.in-Picture.first c.in-Picture.count)
