-- By index, the taken one stands before the others.
use Rattle.std.proofs.Common.{rules, ◌∷◌, ℕ, ◌≤◌, List, sym, subst, arith}
use Rattle.std.specs.List.Sorted.{IsPermutation}
use Rattle.std.proofs.lemmas.List.Sorted.{IsPermutation-swap_remove}
use Rattle.poolhandle.specs.declared.kept.Kept.{Kept}
use Rattle.poolhandle.specs.Filled.{AreDistinct, HaveNot}
use Rattle.poolhandle.proofs.Counting.{distinct-taken, none-taken}
use Rattle.poolhandle.proofs.fillings.Fillings.take.Goals as goal

pub invariant_of-self : goal.invariant_of-self
invariant_of-self c =
    let before = c.args.self.now in let places = before.list.items in let removed = c.swap_remove.ensures in let less = removed.len in let few = before.few in record {
      few = omega (arith, less, few);
      roomy = subst (λ (n : ℕ). 16 ≤ n) (sym removed.capacity) before.roomy;
      distinct = subst AreDistinct (sym removed.items) (distinct-taken places c.args.index c.swap_remove.result (search rules) before.distinct);
    }

pub returns-clause-is : goal.returns-clause-is
returns-clause-is c = c.swap_remove.ensures.value

pub returns-clause-rest : goal.returns-clause-rest
returns-clause-rest c =
    let places = c.args.self.now.list.items in let taken = c.swap_remove.result in
    subst (λ (rest : List Kept). IsPermutation places (taken ∷ rest)) (sym c.swap_remove.ensures.items) (IsPermutation-swap_remove places c.args.index taken (search rules) c.swap_remove.ensures.value)

pub returns-clause-apart : goal.returns-clause-apart
returns-clause-apart c =
    let places = c.args.self.now.list.items in let taken = c.swap_remove.result in
    subst (λ (rest : List Kept). HaveNot taken.filling.key rest) (sym c.swap_remove.ensures.items) (none-taken places c.args.index taken (search rules) c.args.self.now.distinct c.swap_remove.ensures.value)
