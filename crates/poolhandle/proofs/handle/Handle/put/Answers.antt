-- The other fillings are of other keys.
use Rattle.std.proofs.Common.{rules, ◌≡◌, ◌∙◌, ◌<◌, ◌≤◌, ◌++◌, ℕ, false, List, [], refl, sym, ap, subst, slice_index_or, inl, inr}
use Rattle.slotcell.specs.ByteBuf.{ByteBuf}
use Rattle.shardpool.specs.Tokens.{LaneOf}
use Rattle.shardpool.specs.Creates.{Gives, GivesNone}
use Rattle.poolhandle.specs.Filled.{AreMade}
use Rattle.poolhandle.specs.Calls.{as_many}
use Rattle.poolhandle.proofs.Turning.{made-on}
use Rattle.poolhandle.proofs.Carrying.{same-lane, held, lane-publishes}
use Rattle.poolhandle.proofs.Keeping.{same-by}
use Rattle.poolhandle.proofs.handle.Handle.put.Goals as goal

pub invariant_of-self : goal.invariant_of-self
invariant_of-self c =
    let before = c.args.self.now in let places = before.fillings.list.items in let created = c.in-Ok.ensures in let did = c.publish.ensures in
    let one : AreMade c.deref_mut.result.now places = subst (λ (lane : LaneOf). AreMade lane places) (sym c.deref_mut.ensures.value) before.made in
    let two : AreMade c.create.new.self places = λ k d low. created.fillings (slice_index_or places k d).filling (one k d low) in
    let three : AreMade c.deref_mut-in-Ok-append.result.now places = subst (λ (lane : LaneOf). AreMade lane places) (sym c.deref_mut-in-Ok-append.ensures.value) two in
    record {
      owned = (did.owns.0 ∙ search rules, did.owns.1 ∙ search rules, did.owns.2 ∙ search rules);
      made = λ k d low. did.fillings (slice_index_or places k d).filling (created.apart (slice_index_or places k d).filling (one k d low)) (three k d low);
      empty = before.empty;
    }

pub invariant_of-self-in-Err-1 : goal.invariant_of-self-in-Err-1
invariant_of-self-in-Err-1 c =
    let before = c.args.self.now in let did = c.create.ensures in record {
      owned = (did.owns.0 ∙ search rules, did.owns.1 ∙ search rules, did.owns.2 ∙ search rules);
      made = made-on c.deref_mut.result.now before.lane.value c.create.new.self before.fillings.list.items c.deref_mut.ensures.value did.fillings before.made;
      empty = before.empty;
    }

pub invariant_of-self-in-Err-create : goal.invariant_of-self-in-Err-create
invariant_of-self-in-Err-create c =
    let before = c.args.self.now in let did = c.create.ensures in record {
      owned = (did.owns.0 ∙ search rules, did.owns.1 ∙ search rules, did.owns.2 ∙ search rules);
      made = made-on c.deref_mut.result.now before.lane.value c.create.new.self before.fillings.list.items c.deref_mut.ensures.value did.fillings before.made;
      empty = before.empty;
    }

pub returns-in-Ok-append : goal.returns-in-Ok-append
returns-in-Ok-append c =
    let before = c.args.self.now in let filling = c.in-Ok.filling in let middle = c.create.new.self in let other = c.deref_mut-in-Ok-append.result.now in let new = c.publish.new.self in
    let did = c.publish.ensures in let is = c.deref_mut-in-Ok-append.ensures.value in
    let gives : Gives (λ (b : ByteBuf). b.bytes) (λ (b : ByteBuf). b.room) before.lane.value middle filling
    = subst (λ (l : LaneOf). Gives (λ (b : ByteBuf). b.bytes) (λ (b : ByteBuf). b.room) l middle filling) c.deref_mut.ensures.value c.in-Ok.ensures.gives in
    let empty : c.value_mut.result.now.bytes ≡ [] = ap (λ (b : ByteBuf). b.bytes) c.value_mut.ensures.object ∙ gives.empty in
    let content : c.append.new.self.bytes ≡ c.args.bytes.now = c.in-Ok-append.ensures.ok ∙ ap (λ (xs : List ℕ). xs ++ c.args.bytes.now) empty in (
      middle,
      filling,
      sym did.key,
      gives,
      (
        c.append.new.self.room,
        subst (λ (b : ByteBuf). b.room ≤ c.append.new.self.room) c.value_mut.ensures.object c.append.ensures.room_kept,
        lane-publishes other middle new is _ filling.key c.publish.result c.append.new.self.bytes c.args.bytes.now false c.append.new.self.room c.append.new.self.room
            (sym did.publishes.same.1 ∙ did.owns.1) (sym did.key) content refl did.called did.publishes did.published did.room,
      ),
      record {
        fillings_so = refl;
        references_so = λ key. held other middle new is as_many did.held key ∙ gives.created.held key;
        lane = same-by before.lane.value middle new gives.created.same (same-lane other middle new is did.publishes.same);
        share = refl;
        joined = refl;
        row = refl;
      },
    )

pub returns-in-Err-Memory : goal.returns-in-Err-Memory
returns-in-Err-Memory c =
    let before = c.args.self.now in let new = c.create.new.self in let is = c.deref_mut.ensures.value in let did = c.in-Err-Memory.ensures in
    let none : GivesNone before.lane.value new = subst (λ (l : LaneOf). GivesNone l new) is (did.none (search rules)) in
    let few = subst (λ (l : LaneOf). l.pages.opened < l.shape.pages) is (did.memory (search rules)) in
    inl (
      inr (refl, few),
      none,
      record { fillings_so = refl; references_so = none.created.held; lane = none.created.same; share = refl; joined = refl; row = refl },
    )
