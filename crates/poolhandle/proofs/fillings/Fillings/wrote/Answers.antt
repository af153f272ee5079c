-- What stood at the index was given to the call.
use Rattle.std.proofs.Common.{rules, ◌≡◌, ◌<◌, ◌≤◌, ◌++◌, ◌∙◌, refl, subst, length, take, slice_index_or}
use Rattle.std.proofs.lemmas.List.{get_or_default}
use Rattle.poolhandle.specs.declared.kept.Kept.{Kept}
use Rattle.poolhandle.specs.Filled.{content_of, room_of, SameFilling}
use Rattle.poolhandle.proofs.fillings.Fillings.wrote.Goals as goal

pub returns-clause-yes : goal.returns-clause-yes
returns-clause-yes c = λ yes. let items = c.args.self.now.list.items in let kept = c.wrote.new.self in let low : c.args.index < length items = search rules in
    let at : c.index_mut.result.now ≡ slice_index_or items c.args.index kept = c.index_mut.ensures.value ∙ get_or_default items c.args.index c.index_mut.result.now kept low in
    let told = c.wrote.ensures.yes yes in (
      kept,
      refl,
      subst (λ (old : Kept). SameFilling old kept) at c.wrote.ensures.same,
      (subst (λ (old : Kept). c.args.count ≤ old.room) at told.0, subst (λ (old : Kept). content_of kept ≡ content_of old ++ take c.args.count (room_of old)) at told.1, told.2),
    )
