-- The first fault of the shape is the one that `open_wide` answers.
use Rattle.std.proofs.Common.{◌≡◌, Err, ap}
use Rattle.shardpool.specs.declared.fault.OpenFault.TheVariants as faults
use Rattle.poolhandle.proofs.opening.open_handles.Goals as goal

pub returns-in-Err-clause-faults : goal.returns-in-Err-clause-faults
returns-in-Err-clause-faults c fault =
    let said = rw c.in-Err.is at (c.open_wide.ensures.faults fault) in (
      λ is. let same : c.in-Err.fault ≡ faults.Shape fault = cc is in said.0 (ap Err same),
      λ first. let same : c.in-Err.fault ≡ faults.Shape fault = cc (said.1 first) in ap Err same,
    )
