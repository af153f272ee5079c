-- The caller that was lent made the call.
use Rattle.std.proofs.Common.{ℕ, Result, Ok, Err, refl, subst, inr}
use Rattle.poolffi.specs.declared.refusal.Refusal.{Refusal}
use Rattle.poolffi.specs.Callers.{Puts}
use Rattle.poolffi.proofs.attach.pardz_pool_put.Goals as goal

pub returns-in-Ok-clause-calls : goal.returns-in-Ok-clause-calls
returns-in-Ok-clause-calls c =
    let Made = λ (answer : Result ℕ Refusal). Puts c.args.bytes.now c.in-Some.caller.now c.put.new.self answer in
    inr (c.in-Some.caller.now, c.put.new.self, c.in-Some.ensures.some, refl, Ok c.in-Ok.published, refl, (subst Made c.in-Ok.is c.put.ensures, refl))

pub returns-in-Err-clause-calls : goal.returns-in-Err-clause-calls
returns-in-Err-clause-calls c =
    let Made = λ (answer : Result ℕ Refusal). Puts c.args.bytes.now c.in-Some.caller.now c.put.new.self answer in
    inr (c.in-Some.caller.now, c.put.new.self, c.in-Some.ensures.some, refl, Err c.in-Err.refusal, c.code_of.ensures, (subst Made c.in-Err.is c.put.ensures, tt))
