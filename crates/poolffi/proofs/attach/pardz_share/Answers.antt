-- The caller that was lent made another, who is lowered.
use Rattle.std.proofs.Common.{rules, ◌∙◌, refl, sym, ap, inl, inr}
use Rattle.poolffi.specs.declared.pool_slot.PoolSlot.{PoolSlot}
use Rattle.poolffi.proofs.Pools.{full-has, empty-has-not}
use Rattle.poolffi.proofs.attach.pardz_share.Goals as goal

pub returns-then-is_full : goal.returns-then-is_full
returns-then-is_full c =
    let some = c.in-Some.ensures.some in
    let full = full-has c.args.other.now (sym c.is_full.ensures.1 ∙ search rules) in
    inr (inl ((c.in-Some.caller.now, some), full, refl, sym some, ap (λ (slot : PoolSlot). slot.items) c.is_full.ensures.0))

pub returns-in-Ok : goal.returns-in-Ok
returns-in-Ok c =
    let none = empty-has-not c.args.other.now (sym c.is_full.ensures.1 ∙ search rules) in
    inr (inr (c.in-Some.caller.now, c.share.new.self, c.in-Some.ensures.some, refl, none, inl (refl, (c.in-Ok.made.value, c.lower.ensures, c.in-Ok.ensures.ok))))

pub returns-in-Err : goal.returns-in-Err
returns-in-Err c =
    let none = empty-has-not c.args.other.now (sym c.is_full.ensures.1 ∙ search rules) in
    let same = ap (λ (slot : PoolSlot). slot.items) c.is_full.ensures.0 in
    inr (inr (c.in-Some.caller.now, c.share.new.self, c.in-Some.ensures.some, refl, none, inr (c.in-Err.refusal, c.code_of.ensures, same, c.in-Err.ensures.err)))
