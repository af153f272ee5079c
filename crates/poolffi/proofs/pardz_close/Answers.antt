-- The handle that was lifted closes its pool, or is lowered where it came back.
use Rattle.std.proofs.Common.{refl, inl, inr, Some, None}
use Rattle.poolhandle.specs.Calls.{ClosesNot}
use Rattle.poolffi.proofs.pardz_close.Goals as goal

pub returns-in-Ok-clause-closes : goal.returns-in-Ok-clause-closes
returns-in-Ok-clause-closes c =
    let closes = c.in-Ok.ensures.closes in
    inr (c.in-Some.handle.value, c.in-Some.ensures.full.0, inl (refl, c.in-Some.ensures.full.2, (closes.0, closes.1, closes.2, (c.in-Ok.counts, closes.3, c.counted.ensures))))

pub returns-in-Err-default-Some-clause-closes : goal.returns-in-Err-default-Some-clause-closes
returns-in-Err-default-Some-clause-closes c =
    let e = c.in-Err-default-Some in
    let stays : ClosesNot c.in-Some.handle.value (Some e.handle.value) e.refusal = rw e.field-0-1-is at e.ensures.stays in
    inr (c.in-Some.handle.value, c.in-Some.ensures.full.0, inr (e.refusal, Some e.handle.value, c.code_of.ensures, c.lower.ensures.1, stays))

pub returns-in-Err-default-None-clause-closes : goal.returns-in-Err-default-None-clause-closes
returns-in-Err-default-None-clause-closes c =
    let e = c.in-Err-default-None in
    let stays : ClosesNot c.in-Some.handle.value None e.refusal = rw e.field-0-1-is at e.ensures.stays in
    inr (c.in-Some.handle.value, c.in-Some.ensures.full.0, inr (e.refusal, None, c.code_of-in-Err-default-None.ensures, c.in-Some.ensures.full.2, stays))
