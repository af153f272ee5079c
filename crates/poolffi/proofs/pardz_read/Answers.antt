-- The lane that was lent is as it was.
use Rattle.std.proofs.Common.{Ok, Err, refl, inr}
use Rattle.poolffi.proofs.pardz_read.Goals as goal

pub returns-in-Ok-clause-calls : goal.returns-in-Ok-clause-calls
returns-in-Ok-clause-calls c = inr (
  c.in-Some.handle.now,
  c.in-Some.handle.now,
  c.in-Some.ensures.some,
  refl,
  Ok c.in-Ok.bytes.now,
  refl,
  (refl, c.in-Ok.ensures, c.tell.ensures.told),
)

pub returns-in-Err-clause-calls : goal.returns-in-Err-clause-calls
returns-in-Err-clause-calls c = inr (
  c.in-Some.handle.now,
  c.in-Some.handle.now,
  c.in-Some.ensures.some,
  refl,
  Err c.in-Err.refusal,
  c.code_of.ensures,
  (c.in-Err.ensures.0, refl, c.in-Err.ensures.1),
)

pub returns-in-Err-clause-writes : goal.returns-in-Err-clause-writes
returns-in-Err-clause-writes c = (λ refused. refl, λ refused. refl)
