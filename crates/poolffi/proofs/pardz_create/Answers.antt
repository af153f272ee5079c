-- The lane that was lent made the call.
use Rattle.std.proofs.Common.{ℕ, Result, Ok, Err, refl, subst, inr}
use Rattle.poolhandle.specs.declared.refusal.Refusal.{Refusal}
use Rattle.poolhandle.specs.Calls.{Creates}
use Rattle.poolffi.proofs.pardz_create.Goals as goal

pub returns-in-Ok-clause-calls : goal.returns-in-Ok-clause-calls
returns-in-Ok-clause-calls c =
    let Made = λ (answer : Result ℕ Refusal). Creates c.in-Some.handle.now c.create.new.self answer in
    inr (c.in-Some.handle.now, c.create.new.self, c.in-Some.ensures.some, refl, Ok c.in-Ok.made, refl, (subst Made c.in-Ok.is c.create.ensures, refl))

pub returns-in-Err-clause-calls : goal.returns-in-Err-clause-calls
returns-in-Err-clause-calls c =
    let Made = λ (answer : Result ℕ Refusal). Creates c.in-Some.handle.now c.create.new.self answer in
    inr (c.in-Some.handle.now, c.create.new.self, c.in-Some.ensures.some, refl, Err c.in-Err.refusal, c.code_of.ensures, (subst Made c.in-Err.is c.create.ensures, tt))
