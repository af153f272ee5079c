-- The fault of the shape is passed on.
use Rattle.std.proofs.Common.{◌∙◌}
use Rattle.std.proofs.lemmas.Result.{err_from_is_err_and}
use Rattle.shardpool.proofs.opening.open_with_guests.Goals as goal

pub returns-in_err-check_wide-clause-faults : goal.returns-in_err-check_wide-clause-faults
returns-in_err-check_wide-clause-faults g c = λ fault.
    let left = err_from_is_err_and c.from_residual.result c.from_residual.ensures.1 in
    let told = c.check_wide.ensures.err fault in
    let few = c.if-shape-gt-MOST_GUESTS.false in (
      λ is. (few, told.0 (c.in_err-check_wide.was {u = tt} ∙ cc (left.1, left.2, is))),
      λ first. left.1 ∙ cc (left.2, c.in_err-check_wide.was {u = tt}, told.1 first.1),
    )
