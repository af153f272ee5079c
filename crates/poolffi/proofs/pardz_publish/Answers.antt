-- The lane that was lent made the call.
use Rattle.std.proofs.Common.{refl, inr}
use Rattle.poolffi.proofs.pardz_publish.Goals as goal

pub returns : goal.returns
returns c = inr (c.in-Some.handle.now, c.publish.new.self, c.in-Some.ensures.some, refl, c.publish.result, c.code.ensures, c.publish.ensures)
