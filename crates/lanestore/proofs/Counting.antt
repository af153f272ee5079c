-- How often a key stands among fillings.
use Rattle.std.proofs.Common.{◌≡◌, ◌≢◌, ◌==◌, ℕ, ◌<◌, Bool, List, [], ◌∷◌, ◌++◌, length, slice_index_or, swap_remove, refl, sym, ap, ◌∙◌, subst, arith, eq-eqb, ne_eqb, if◌then◌else◌}
use Rattle.std.proofs.lemmas.List.Elements.{All-nil, All-cons, All-head, All-tail}
use Rattle.std.proofs.lemmas.List.Sums.{sum_by-cons, sum_by_push, sum_by-swap_remove}
use mathlib.Core.Logic.{dite}
use native.Mathlib.Decide.{ℕ_discrete}
use Rattle.lanestore.specs.declared.kept.Kept.{Kept}
use Rattle.std.specs.List.Sorted.{IsPermutation}
use Rattle.std.proofs.lemmas.List.Sorted.{IsPermutation-swap_remove}
use Rattle.shardpool.specs.Tokens.{FillingOf}
use Rattle.lanestore.specs.Fillings.{times, AreDistinct, HaveNot, Lose}

module _ {T : Type 0} where
  abbrev counts : ℕ → Kept T → ℕ
  counts key one = if one.filling.key == key then 1 else 0

  counts-one : (key : ℕ) (one : Kept T) → one.filling.key ≡ key → counts key one ≡ 1
  counts-one key one same = ap (λ (b : Bool). if b then 1 else 0) (eq-eqb one.filling.key key same)

  counts-none : (key : ℕ) (one : Kept T) → one.filling.key ≢ key → counts key one ≡ 0
  counts-none key one other = ap (λ (b : Bool). if b then 1 else 0) (ne_eqb one.filling.key key other)

  have-not : (key : ℕ) (kept : List (Kept T)) → times key kept ≡ 0 → HaveNot key kept
  have-not key [] none = All-nil (λ (one : Kept T). one.filling.key ≢ key)
  have-not key (x ∷ xs) none =
      let sum = sum_by-cons (counts key) x xs in
      All-cons (λ (one : Kept T). one.filling.key ≢ key) x xs (λ same. let one = counts-one key x same in absurd (omega (arith, sum, one, none)))
      (have-not key xs (omega (arith, sum, none)))

  times-none : (key : ℕ) (kept : List (Kept T)) → HaveNot key kept → times key kept ≡ 0
  times-none key [] none = refl
  times-none key (x ∷ xs) none =
      let P = λ (one : Kept T). one.filling.key ≢ key in let sum = sum_by-cons (counts key) x xs in
      let here = counts-none key x (All-head P x xs none) in let there = times-none key xs (All-tail P x xs none) in sum ∙ omega (arith, here, there)

  -- after one is put behind
  pub distinct-push : (kept : List (Kept T)) (one : Kept T) → AreDistinct kept → HaveNot one.filling.key kept → AreDistinct (kept ++ one ∷ [])
  distinct-push kept one distinct none key =
      let sum = sum_by_push (counts key) kept one in let few = distinct key in
      dite (ℕ_discrete one.filling.key key)
      (λ same. let here = counts-one key one same in let rest = times-none key kept (subst (λ (k : ℕ). HaveNot k kept) same none) in omega (arith, sum, here, rest))
      (λ other. let zero = counts-none key one other in omega (arith, sum, zero, few))

  -- after one is taken out
  pub distinct-taken : (kept : List (Kept T)) (index : ℕ) (one : Kept T) → index < length kept → AreDistinct kept → AreDistinct (swap_remove kept index one)
  distinct-taken kept index one low distinct key = let sum = sum_by-swap_remove (counts key) kept index one low in let few = distinct key in omega (arith, sum, few)

  pub none-taken : (kept : List (Kept T)) (index : ℕ) (one : Kept T) → index < length kept → AreDistinct kept → one ≡ slice_index_or kept index one
      → HaveNot one.filling.key (swap_remove kept index one)
  none-taken kept index one low distinct is =
      let key = one.filling.key in let sum = sum_by-swap_remove (counts key) kept index one low in let few = distinct key in
      let here = counts-one key (slice_index_or kept index one) (ap (λ (k : Kept T). k.filling.key) (sym is)) in
      have-not key (swap_remove kept index one) (omega (arith, sum, few, here))

  -- the one that stood there is gone
  pub lost : (kept rest : List (Kept T)) (index : ℕ) (taken : Kept T) (filling : FillingOf T) → index < length kept → AreDistinct kept → taken ≡ slice_index_or kept index taken
      → rest ≡ swap_remove kept index taken → filling ≡ taken.filling → Lose filling kept rest
  lost kept rest index taken filling low distinct value items is = (
    taken,
    sym is,
    subst (λ (others : List (Kept T)). IsPermutation kept (taken ∷ others)) (sym items) (IsPermutation-swap_remove kept index taken low value),
    subst (λ (others : List (Kept T)). HaveNot filling.key others) (sym items)
        (subst (λ (f : FillingOf T). HaveNot f.key (swap_remove kept index taken)) (sym is) (none-taken kept index taken low distinct value)),
  )
