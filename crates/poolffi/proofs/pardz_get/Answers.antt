-- The lane that was lent made the call.
use Rattle.std.proofs.Common.{Ok, Err, refl, inr}
use Rattle.poolffi.proofs.pardz_get.Goals as goal

pub returns-in-Ok-clause-calls : goal.returns-in-Ok-clause-calls
returns-in-Ok-clause-calls c = inr (
  c.in-Some.handle.now,
  c.get.new.self,
  c.in-Some.ensures.some,
  refl,
  Ok c.bytes_at.result.now,
  refl,
  (c.in-Ok.ensures.got.1, c.bytes_at.ensures, c.tell.ensures.told),
)

pub returns-in-Err-clause-calls : goal.returns-in-Err-clause-calls
returns-in-Err-clause-calls c = inr (c.in-Some.handle.now, c.get.new.self, c.in-Some.ensures.some, refl, Err c.in-Err.refusal, c.code_of.ensures, c.in-Err.ensures.not_got)
