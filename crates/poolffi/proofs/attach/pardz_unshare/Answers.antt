-- The slot had a caller, who is dropped.
use Rattle.std.proofs.Common.{refl, inr}
use Rattle.poolffi.proofs.attach.pardz_unshare.Goals as goal

pub returns : goal.returns
returns c = inr ((c.in-Some.caller.value, c.in-Some.ensures.full.0), refl, c.in-Some.ensures.full.1)
