-- The caller that was lifted closes the pool, or is lowered where he came back.
use Rattle.std.proofs.Common.{refl, inl, inr, Some, None}
use Rattle.poolffi.specs.Callers.{ClosesNot}
use Rattle.poolffi.proofs.attach.pardz_detach.Goals as goal

pub returns-in-Ok-clause-detaches : goal.returns-in-Ok-clause-detaches
returns-in-Ok-clause-detaches c =
    inr (c.in-Some.caller.value, c.in-Some.ensures.full.0, inl (refl, c.in-Some.ensures.full.1, (c.in-Ok.counts, c.in-Ok.ensures.closes, c.counted.ensures)))

pub returns-in-Err-default-Some-clause-detaches : goal.returns-in-Err-default-Some-clause-detaches
returns-in-Err-default-Some-clause-detaches c =
    let e = c.in-Err-default-Some in
    let stays : ClosesNot c.in-Some.caller.value (Some e.caller.value) e.refusal = rw e.field-0-1-is at e.ensures.stays in
    inr (c.in-Some.caller.value, c.in-Some.ensures.full.0, inr (e.refusal, Some e.caller.value, c.code_of.ensures, c.lower.ensures, stays))

pub returns-in-Err-default-None-clause-detaches : goal.returns-in-Err-default-None-clause-detaches
returns-in-Err-default-None-clause-detaches c =
    let e = c.in-Err-default-None in
    let stays : ClosesNot c.in-Some.caller.value None e.refusal = rw e.field-0-1-is at e.ensures.stays in
    inr (c.in-Some.caller.value, c.in-Some.ensures.full.0, inr (e.refusal, None, c.code_of-in-Err-default-None.ensures, c.in-Some.ensures.full.1, stays))
