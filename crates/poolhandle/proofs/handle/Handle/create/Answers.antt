-- The new filling stands behind the others.
use Rattle.std.proofs.Common.{rules, ◌≡◌, ◌∙◌, sym, ap, refl, subst, slice_index_or}
use Rattle.std.proofs.lemmas.List.Elements.{All-push}
use Rattle.slotcell.specs.ByteBuf.{ByteBuf}
use Rattle.shardpool.specs.Tokens.{LaneOf, FillingOf}
use Rattle.shardpool.specs.Lanes.{Made}
use Rattle.shardpool.specs.Creates.{Gives}
use Rattle.poolhandle.specs.declared.kept.Kept.{Kept}
use Rattle.poolhandle.specs.Filled.{AreMade}
use Rattle.poolhandle.proofs.Turning.{all-content, no-room, made-on}
use Rattle.poolhandle.proofs.handle.Handle.create.Goals as goal

pub invariant_of-self-in-Ok : goal.invariant_of-self-in-Ok
invariant_of-self-in-Ok c =
    let before = c.args.self.now in let old = before.fillings.list.items in let did = c.in-Ok.ensures in let lane = c.create.new.self in let kept = c.new.result in
    let P = λ (k : Kept). Made lane k.filling in
    let was : AreMade c.deref_mut.result.now old = subst (λ (l : LaneOf). AreMade l old) (sym c.deref_mut.ensures.value) before.made in
    let own : P kept = subst (λ (f : FillingOf ByteBuf). Made lane f) (sym c.new.ensures.0) did.gives.made in
    record {
      owned = (did.owns.0 ∙ search rules, did.owns.1 ∙ search rules, did.owns.2 ∙ search rules);
      made = subst (AreMade lane) (sym c.keep.ensures) (All-push P old kept (λ k d low. did.fillings (slice_index_or old k d).filling (was k d low)) own);
      empty = before.empty;
    }

pub invariant_of-self-in-Err-1 : goal.invariant_of-self-in-Err-1
invariant_of-self-in-Err-1 c =
    let before = c.args.self.now in let did = c.create.ensures in record {
      owned = (did.owns.0 ∙ search rules, did.owns.1 ∙ search rules, did.owns.2 ∙ search rules);
      made = made-on c.deref_mut.result.now before.lane.value c.create.new.self before.fillings.list.items c.deref_mut.ensures.value did.fillings before.made;
      empty = before.empty;
    }

pub returns-in-Ok : goal.returns-in-Ok
returns-in-Ok c =
    let before = c.args.self.now in let old = before.fillings.list.items in let did = c.in-Ok.ensures in let lane = c.create.new.self in let kept = c.new.result in let filling = c.in-Ok.filling in
    let is : kept.filling ≡ filling = c.new.ensures.0 in
    let gives : Gives (λ (b : ByteBuf). b.bytes) (λ (b : ByteBuf). b.room) before.lane.value lane filling
    = subst (λ (l : LaneOf). Gives (λ (b : ByteBuf). b.bytes) (λ (b : ByteBuf). b.room) l lane filling) c.deref_mut.ensures.value did.gives in
    let under : filling.key ≡ c.key-key.result = sym c.key-key.ensures in
    let content = all-content kept c.new.ensures.1 ∙ (ap (λ (f : FillingOf ByteBuf). f.object.bytes) is ∙ gives.empty) in (
      filling,
      under,
      gives,
      record {
        fillings_so = (kept, is, content, no-room kept c.new.ensures.1, c.keep.ensures);
        references_so = gives.created.held;
        lane = gives.created.same;
        share = refl;
        joined = refl;
        row = refl;
      },
    )
