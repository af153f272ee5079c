-- The lane that was lent made the call.
use Rattle.std.proofs.Common.{Ok, Err, refl, inr}
use Rattle.poolffi.proofs.pardz_room.Goals as goal

pub returns-then-count-ne0-clause-calls : goal.returns-then-count-ne0-clause-calls
returns-then-count-ne0-clause-calls c = inr (c.in-Some.handle.now, c.room.new.self, c.in-Some.ensures.some, refl, Ok tt, refl, c.in-Ok.ensures.ok)

pub returns-else-count-ne0-clause-calls : goal.returns-else-count-ne0-clause-calls
returns-else-count-ne0-clause-calls c = inr (c.in-Some.handle.now, c.room.new.self, c.in-Some.ensures.some, refl, Ok tt, refl, c.in-Ok.ensures.ok)

pub returns-in-Err-clause-calls : goal.returns-in-Err-clause-calls
returns-in-Err-clause-calls c = inr (c.in-Some.handle.now, c.room.new.self, c.in-Some.ensures.some, refl, Err c.in-Err.refusal, c.code_of.ensures, c.in-Err.ensures.err)
