-- The caller that was lent made the call.
use Rattle.std.proofs.Common.{Result, Ok, Err, refl, subst, inr}
use Rattle.poolffi.specs.declared.found.Found.{Found}
use Rattle.poolffi.specs.declared.refusal.Refusal.{Refusal}
use Rattle.poolffi.specs.Callers.{Gets}
use Rattle.poolffi.proofs.attach.pardz_pool_get.Goals as goal

pub returns-in-Ok-clause-calls : goal.returns-in-Ok-clause-calls
returns-in-Ok-clause-calls c =
    let Got = λ (answer : Result Found Refusal). Gets c.args.key c.in-Some.caller.now c.get.new.self answer in
    inr (c.in-Some.caller.now, c.get.new.self, c.in-Some.ensures.some, refl, Ok c.in-Ok.found, refl, (subst Got c.in-Ok.is c.get.ensures, c.tell.ensures.told))

pub returns-in-Err-clause-calls : goal.returns-in-Err-clause-calls
returns-in-Err-clause-calls c =
    let Got = λ (answer : Result Found Refusal). Gets c.args.key c.in-Some.caller.now c.get.new.self answer in
    inr (c.in-Some.caller.now, c.get.new.self, c.in-Some.ensures.some, refl, Err c.in-Err.refusal, c.code_of.ensures, (subst Got c.in-Err.is c.get.ensures, tt))
