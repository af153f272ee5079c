use Rattle.explanations.proofs.half_run.undone_told.Goals as goal

pub returns : goal.returns
returns c = simp (c.in_ok-absent.ensures, c.in_ok-left.ensures) at c.format.ensures.ok
