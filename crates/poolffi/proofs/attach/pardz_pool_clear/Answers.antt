-- The caller that was lent made the call.
use Rattle.std.proofs.Common.{refl, inr}
use Rattle.poolffi.proofs.attach.pardz_pool_clear.Goals as goal

pub returns : goal.returns
returns c = inr (c.in-Some.caller.now, c.clear.new.self, c.in-Some.ensures.some, refl, c.clear.result, c.code.ensures, c.clear.ensures)
