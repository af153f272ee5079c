-- Where memory was refused nothing is made.
use Rattle.std.proofs.Common.{◌∙◌}
use Rattle.shardpool.proofs.opening.try_open.Goals as goal

pub returns-in_err-lanes-clause-pool : goal.returns-in_err-lanes-clause-pool
returns-in_err-lanes-clause-pool g c = rw c.from_residual.ensures tt

pub returns-in_err-lanes-clause-lanes : goal.returns-in_err-lanes-clause-lanes
returns-in_err-lanes-clause-lanes g c = rw c.from_residual.ensures tt

pub returns-in_err-states-clause-pool : goal.returns-in_err-states-clause-pool
returns-in_err-states-clause-pool g c = rw c.from_residual-in_err-states.ensures tt

pub returns-in_err-states-clause-lanes : goal.returns-in_err-states-clause-lanes
returns-in_err-states-clause-lanes g c = rw c.from_residual-in_err-states.ensures tt

pub returns-in_err-rights-clause-pool : goal.returns-in_err-rights-clause-pool
returns-in_err-rights-clause-pool g c = rw c.from_residual-in_err-rights.ensures tt

pub returns-in_err-rights-clause-lanes : goal.returns-in_err-rights-clause-lanes
returns-in_err-rights-clause-lanes g c = rw c.from_residual-in_err-rights.ensures tt

pub returns-in_err-directory-clause-pool : goal.returns-in_err-directory-clause-pool
returns-in_err-directory-clause-pool g c = rw c.from_residual-in_err-directory.ensures tt

pub returns-in_err-directory-clause-lanes : goal.returns-in_err-directory-clause-lanes
returns-in_err-directory-clause-lanes g c = rw c.from_residual-in_err-directory.ensures tt

pub returns-in_default-clause-pool : goal.returns-in_default-clause-pool
returns-in_default-clause-pool g c = tt

pub returns-in_default-clause-lanes : goal.returns-in_default-clause-lanes
returns-in_default-clause-lanes g c = tt

-- ---- the shape is within its limits

pub slot_row-requires : goal.slot_row-requires
slot_row-requires g c = c.requires.shape

pub parts_of-requires : goal.parts_of-requires
parts_of-requires g c = c.requires.shape

-- ---- a new directory has given nothing away

pub close-requires : goal.close-requires
close-requires g c = (λ i. (c.base.ensures.1 i).next) ∙ c.in_ok-directory.ensures.0

-- ---- what is made

pub endow-lanes-requires-clause-parts : goal.endow-lanes-requires-clause-parts
endow-lanes-requires-clause-parts g c = c.in-Some.ensures.parts

pub returns-clause-pool : goal.returns-clause-pool
returns-clause-pool g c = c.in-Some.ensures.grid.0

pub returns-clause-lanes : goal.returns-clause-lanes
returns-clause-lanes g c = c.endow-lanes.ensures.lanes
