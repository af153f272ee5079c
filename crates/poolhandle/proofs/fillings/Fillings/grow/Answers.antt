-- What stood at the index was given to the call.
use Rattle.std.proofs.Common.{rules, ◌≡◌, ◌<◌, ◌∙◌, refl, subst, length, slice_index_or}
use Rattle.std.proofs.lemmas.List.{get_or_default}
use Rattle.poolhandle.specs.declared.kept.Kept.{Kept}
use Rattle.poolhandle.specs.Filled.{content_of, SameFilling, MustGrow}
use Rattle.poolhandle.proofs.fillings.Fillings.grow.Goals as goal

pub returns-clause-changes : goal.returns-clause-changes
returns-clause-changes c = let items = c.args.self.now.list.items in let kept = c.grow.new.self in let low : c.args.index < length items = search rules in
    let at : c.index_mut.result.now ≡ slice_index_or items c.args.index kept = c.index_mut.ensures.value ∙ get_or_default items c.args.index c.index_mut.result.now kept low in (
      kept,
      refl,
      subst (λ (old : Kept). SameFilling old kept) at c.grow.ensures.same,
      (subst (λ (old : Kept). content_of kept ≡ content_of old) at c.grow.ensures.content, c.grow.ensures.zeros, c.grow.ensures.room),
    )

pub returns-clause-grown : goal.returns-clause-grown
returns-clause-grown c = λ refused d. let items = c.args.self.now.list.items in let low : c.args.index < length items = search rules in
    let at : c.index_mut.result.now ≡ slice_index_or items c.args.index d = c.index_mut.ensures.value ∙ get_or_default items c.args.index c.index_mut.result.now d low in
    subst (λ (old : Kept). MustGrow old (c.args.count)) at (c.grow.ensures.grown refused)
