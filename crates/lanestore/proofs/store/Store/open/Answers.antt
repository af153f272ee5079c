-- The first fault of the shape is the one that the check answers.
use Rattle.std.proofs.Common.{◌∙◌}
use Rattle.std.proofs.lemmas.Result.{err_from_is_err_and}
use Rattle.lanestore.proofs.store.Store.open.Goals as goal

pub returns-in_err-check-clause-faults : goal.returns-in_err-check-clause-faults
returns-in_err-check-clause-faults g c = λ fault.
    let left = err_from_is_err_and c.from_residual.result c.from_residual.ensures.1 in
    let told = c.check.ensures.err fault in (
      λ is. told.0 (c.in_err-check.was {u = tt} ∙ cc (left.1, left.2, is)),
      λ first. left.1 ∙ cc (left.2, c.in_err-check.was {u = tt}, told.1 first),
    )
