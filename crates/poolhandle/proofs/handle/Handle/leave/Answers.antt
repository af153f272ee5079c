-- The filling is taken out.
use Rattle.std.proofs.Common.{◌≡◌, ◌∙◌, ℕ, refl, ap, sym, subst}
use Rattle.std.specs.Arc.{arc_value}
use Rattle.shardpool.specs.Tokens.{LaneOf}
use Rattle.shardpool.specs.Lanes.{Owns}
use Rattle.poolhandle.specs.declared.kept.Kept.{Kept}
use Rattle.poolhandle.specs.Filled.{HaveNot, AreMade}
use Rattle.poolhandle.proofs.Turning.{made-taken}
use Rattle.poolhandle.proofs.Keeping.{keeps-lane}
use Rattle.poolhandle.proofs.handle.Handle.leave.Goals as goal

pub invariant_of-self : goal.invariant_of-self
invariant_of-self c =
    let before = c.args.self.now in let old = before.fillings.list.items in let rest = c.take.new.self.list.items in let kept = c.take.result in let found = c.in-Some.ensures.some in
    record {
      owned = subst (λ (lane : LaneOf). Owns (arc_value before.shared).pool lane) (sym (c.leave.ensures ∙ c.deref_mut.ensures.value)) before.owned;
      made = subst (λ (lane : LaneOf). AreMade lane rest) (sym (c.leave.ensures ∙ c.deref_mut.ensures.value)) (made-taken before.lane.value old rest kept c.take.ensures.rest before.made);
      empty = before.empty;
    }

pub returns : goal.returns
returns c =
    let rest = c.take.new.self.list.items in let kept = c.take.result in
    let under : kept.filling.key ≡ c.args.key = ap (λ (k : Kept). k.filling.key) c.take.ensures.is ∙ c.in-Some.ensures.some.1 kept in
    let same = c.leave.ensures ∙ c.deref_mut.ensures.value in
    (same, (kept, keeps-lane same refl refl refl (under, c.take.ensures.rest, subst (λ (key : ℕ). HaveNot key rest) under c.take.ensures.apart)))
