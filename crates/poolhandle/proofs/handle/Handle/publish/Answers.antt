-- The filling is taken out, and the others are of other keys.
use Rattle.std.proofs.Common.{rules, ◌≡◌, ◌∙◌, ℕ, false, refl, sym, ap, subst, slice_index_or}
use Rattle.shardpool.specs.Tokens.{LaneOf}
use Rattle.poolhandle.specs.declared.kept.Kept.{Kept}
use Rattle.poolhandle.specs.Filled.{content_of, AreMade, HaveNot}
use Rattle.poolhandle.specs.Calls.{as_many}
use Rattle.poolhandle.proofs.Turning.{made-taken}
use Rattle.poolhandle.proofs.Carrying.{same-lane, held, lane-publishes}
use Rattle.poolhandle.proofs.handle.Handle.publish.Goals as goal

pub invariant_of-self-2 : goal.invariant_of-self-2
invariant_of-self-2 c =
    let before = c.args.self.now in let old = before.fillings.list.items in let rest = c.take.new.self.list.items in let kept = c.take.result in let found = c.in-Some.ensures.some in
    let did = c.publish.ensures in let token = c.into_content-filling.ensures.token in
    let made : AreMade c.deref_mut.result.now rest = subst (λ (lane : LaneOf). AreMade lane rest) (sym c.deref_mut.ensures.value) (made-taken before.lane.value old rest kept c.take.ensures.rest before.made) in
    record {
      owned = (did.owns.0 ∙ search rules, did.owns.1 ∙ search rules, did.owns.2 ∙ search rules);
      made = λ k d low. did.fillings (slice_index_or rest k d).filling (λ same. c.take.ensures.apart k d low (same ∙ token.1)) (made k d low);
      empty = before.empty;
    }

pub returns : goal.returns
returns c =
    let before = c.args.self.now in let rest = c.take.new.self.list.items in let kept = c.take.result in let given = c.deref_mut.result.now in let new = c.publish.new.self in
    let filling = c.into_content-filling in let did = c.publish.ensures in let is = c.deref_mut.ensures.value in
    let under : kept.filling.key ≡ c.args.key = ap (λ (k : Kept). k.filling.key) c.take.ensures.is ∙ c.in-Some.ensures.some.1 kept in (
      kept,
      lane-publishes given before.lane.value new is _ filling.result.key c.args.key filling.result.object.bytes (content_of kept) false filling.result.object.room kept.filling.object.room
          (sym did.publishes.same.1 ∙ did.owns.1) (filling.ensures.token.1 ∙ under) filling.ensures.content filling.ensures.room did.called did.publishes did.published did.room,
      record {
        fillings_so = (under, c.take.ensures.rest, subst (λ (key : ℕ). HaveNot key rest) under c.take.ensures.apart);
        references_so = held given before.lane.value new is as_many did.held;
        lane = same-lane given before.lane.value new is did.publishes.same;
        share = refl;
        joined = refl;
        row = refl;
      },
    )
