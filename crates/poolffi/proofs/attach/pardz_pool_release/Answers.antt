-- The caller that was lent made the call.
use Rattle.std.proofs.Common.{refl, inr}
use Rattle.poolffi.proofs.attach.pardz_pool_release.Goals as goal

pub returns : goal.returns
returns c = inr (c.in-Some.caller.now, c.release.new.self, c.in-Some.ensures.some, refl, c.release.result, c.code.ensures, c.release.ensures)
