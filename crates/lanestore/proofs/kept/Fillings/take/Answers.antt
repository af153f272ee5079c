-- By index, the taken one stands before the others.
use Rattle.std.proofs.Common.{◌≤◌, ◌∙◌, ℕ, sym, ap, subst, arith}
use Rattle.shardpool.specs.Tokens.{FillingOf}
use Rattle.lanestore.specs.declared.kept.Kept.{Kept}
use Rattle.lanestore.specs.Fillings.{AreDistinct}
use Rattle.lanestore.proofs.Counting.{distinct-taken, lost}
use Rattle.lanestore.proofs.Making.{made-one, made-rest}
use Rattle.lanestore.proofs.kept.Fillings.take.Goals as goal

pub invariant_of-self : goal.invariant_of-self
invariant_of-self g c =
    let before = c.args.self.now in let removed = c.swap_remove.ensures in let less = removed.len in let few = before.few in record {
      few = omega (arith, less, few);
      roomy = subst (λ (n : ℕ). 64 ≤ n) (sym removed.capacity) before.roomy;
      distinct = subst AreDistinct (sym removed.items)
          (distinct-taken before.list.items c.in_ok-index.index c.swap_remove.result c.in_ok-index.ensures.some.0 before.distinct);
    }

pub returns-clause-taken : goal.returns-clause-taken
returns-clause-taken g c =
    let before = c.args.self.now in let kept = before.list.items in let taken = c.swap_remove.result in
    let found = c.in_ok-index.ensures.some in let removed = c.swap_remove.ensures in let is = c.into_filling.ensures in
    let less = removed.len in let few = before.few in (
      ap (λ (f : FillingOf g.row.T.Denot). f.key) is ∙ (ap (λ (one : Kept g.row.T.Denot). one.filling.key) removed.value ∙ found.1 taken),
      lost kept c.swap_remove.new.self.items c.in_ok-index.index taken c.into_filling.result found.0 before.distinct removed.value removed.items is,
      omega (arith, less, few),
    )

pub returns-clause-made : goal.returns-clause-made
returns-clause-made g c = λ lane made.
    let before = c.args.self.now in let kept = before.list.items in let removed = c.swap_remove.ensures in
    made-rest lane c.into_filling.result kept c.swap_remove.new.self.items
    (lost kept c.swap_remove.new.self.items c.in_ok-index.index c.swap_remove.result c.into_filling.result c.in_ok-index.ensures.some.0 before.distinct
    removed.value removed.items c.into_filling.ensures) made

pub returns-clause-own : goal.returns-clause-own
returns-clause-own g c = λ lane made.
    let before = c.args.self.now in let kept = before.list.items in let removed = c.swap_remove.ensures in
    made-one lane c.into_filling.result kept c.swap_remove.new.self.items
    (lost kept c.swap_remove.new.self.items c.in_ok-index.index c.swap_remove.result c.into_filling.result c.in_ok-index.ensures.some.0 before.distinct
    removed.value removed.items c.into_filling.ensures) made
