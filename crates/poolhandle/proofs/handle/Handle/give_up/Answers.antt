-- The other fillings are of other keys.
use Rattle.std.proofs.Common.{rules, ◌⊎◌, ◌∙◌, ℕ, false, refl, sym, subst, slice_index_or}
use Rattle.shardpool.specs.Tokens.{LaneOf}
use Rattle.poolhandle.specs.Filled.{AreMade}
use Rattle.poolhandle.specs.LaneCalls.{LaneClears, LaneClearsNone}
use Rattle.poolhandle.specs.Calls.{as_many}
use Rattle.poolhandle.proofs.Carrying.{same-lane, held, lane-publishes, lane-cleared}
use Rattle.poolhandle.proofs.Keeping.{same-by}
use Rattle.poolhandle.proofs.handle.Handle.give_up.Goals as goal

pub invariant_of-self : goal.invariant_of-self
invariant_of-self c =
    let before = c.args.self.now in let places = before.fillings.list.items in let did = c.publish-key.ensures in let ended = c.clear.ensures in
    let one : AreMade c.deref_mut.result.now places = subst (λ (lane : LaneOf). AreMade lane places) (sym c.deref_mut.ensures.value) before.made in
    let two : AreMade c.publish-key.new.self places = λ k d low. did.fillings (slice_index_or places k d).filling (c.requires.apart k d low) (one k d low) in
    let three : AreMade c.deref_mut-2.result.now places = subst (λ (lane : LaneOf). AreMade lane places) (sym c.deref_mut-2.ensures.value) two in
    record {
      owned = (ended.owns.0 ∙ search rules, ended.owns.1 ∙ search rules, ended.owns.2 ∙ search rules);
      made = λ k d low. ended.fillings (slice_index_or places k d).filling (three k d low);
      empty = before.empty;
    }

pub returns-clause-gives_up : goal.returns-clause-gives_up
returns-clause-gives_up c =
    let before = c.args.self.now in let filling = c.args.filling in let one = c.deref_mut.result.now in let middle = c.publish-key.new.self in let did = c.publish-key.ensures in
    let other = c.deref_mut-2.result.now in let new = c.clear.new.self in let ended = c.clear.ensures in
    let cleared = lane-cleared other middle new c.deref_mut-2.ensures.value _ c.publish-key.result c.clear.result (sym ended.same.1 ∙ ended.owns.1) ended.outside ended.called ended.clears ended.cleared ended.missed in (
      middle,
      lane-publishes one before.lane.value middle c.deref_mut.ensures.value _ filling.key filling.key filling.object.bytes filling.object.bytes false filling.object.room filling.object.room
          (sym did.publishes.same.1 ∙ did.owns.1) refl refl refl did.called did.publishes did.published did.room,
      subst (λ (key : ℕ). LaneClears key middle new ⊎ LaneClearsNone key middle new) did.key cleared,
    )

pub returns-clause-stays : goal.returns-clause-stays
returns-clause-stays c =
    let before = c.args.self.now in let one = c.deref_mut.result.now in let middle = c.publish-key.new.self in let did = c.publish-key.ensures in
    let other = c.deref_mut-2.result.now in let new = c.clear.new.self in let ended = c.clear.ensures in
    let first = c.deref_mut.ensures.value in let second = c.deref_mut-2.ensures.value in record {
      fillings_so = refl;
      references_so = λ key. held other middle new second as_many ended.held key ∙ held one before.lane.value middle first as_many did.held key;
      lane = same-by before.lane.value middle new (same-lane one before.lane.value middle first did.publishes.same) (same-lane other middle new second ended.same);
      share = refl;
      joined = refl;
      row = refl;
    }
