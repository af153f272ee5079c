-- The first fault of the shape is the one that the check or `open_wide` answers.
use Rattle.std.proofs.Common.{◌≡◌, ◌∙◌, Err, ap}
use Rattle.std.proofs.lemmas.Result.{err_from_is_err_and}
use Rattle.shardpool.specs.declared.fault.OpenFault.TheVariants as faults
use Rattle.poolffi.proofs.opening.open_caller.Goals as goal

pub returns-in_err-check_wide-clause-faults : goal.returns-in_err-check_wide-clause-faults
returns-in_err-check_wide-clause-faults c = λ fault.
    let left = err_from_is_err_and c.from_residual.result c.from_residual.ensures.1 in
    let told = c.check_wide.ensures.err fault in (
      λ is. told.0 (c.in_err-check_wide.was {u = tt} ∙ cc (left.1, left.2, is)),
      λ first. left.1 ∙ cc (left.2, c.in_err-check_wide.was {u = tt}, told.1 first),
    )

pub returns-in-Err-clause-faults : goal.returns-in-Err-clause-faults
returns-in-Err-clause-faults c fault =
    let said = rw c.in-Err.is at (c.open_wide.ensures.faults fault) in (
      λ is. let same : c.in-Err.fault ≡ faults.Shape fault = cc is in said.0 (ap Err same),
      λ first. let same : c.in-Err.fault ≡ faults.Shape fault = cc (said.1 first) in ap Err same,
    )
