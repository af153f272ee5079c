-- How often a key stands among loans.
use Rattle.std.proofs.Common.{◌≡◌, ◌≢◌, ◌==◌, ◌+◌, ◌≤◌, ℕ, Bool, List, [], ◌∷◌, ◌++◌, Contains, refl, ap, ◌∙◌, arith, eq-eqb, ne_eqb, if◌then◌else◌}
use Rattle.std.proofs.lemmas.List.Elements.{All-nil, All-cons, All-head, All-tail, All-contains}
use Rattle.std.proofs.lemmas.List.Sums.{sum_by-cons, sum_by_push}
use Rattle.std.specs.List.Sorted.{IsPermutation}
use Rattle.std.proofs.lemmas.List.Sorted.{sum_by-IsPermutation}
use mathlib.Core.Logic.{dite}
use native.Mathlib.Decide.{ℕ_discrete}
use Rattle.shardpool.specs.Loans.{LoanOf}
use Rattle.lendings.specs.Lenders.{times, HaveNot}

module _ {T : Type 0} where
  abbrev pub counts : ℕ → LoanOf T → ℕ
  counts key loan = if loan.key == key then 1 else 0

  pub counts-one : (key : ℕ) (loan : LoanOf T) → loan.key ≡ key → counts key loan ≡ 1
  counts-one key loan same = ap (λ (b : Bool). if b then 1 else 0) (eq-eqb loan.key key same)

  pub counts-none : (key : ℕ) (loan : LoanOf T) → loan.key ≢ key → counts key loan ≡ 0
  counts-none key loan other = ap (λ (b : Bool). if b then 1 else 0) (ne_eqb loan.key key other)

  pub times-cons : (key : ℕ) (loan : LoanOf T) (loans : List (LoanOf T)) → times key (loan ∷ loans) ≡ counts key loan + times key loans
  times-cons key loan loans = sum_by-cons (counts key) loan loans

  pub times-push : (key : ℕ) (loans : List (LoanOf T)) (loan : LoanOf T) → times key (loans ++ loan ∷ []) ≡ times key loans + counts key loan
  times-push key loans loan = sum_by_push (counts key) loans loan

  pub times-permuted : (key : ℕ) (loans others : List (LoanOf T)) → IsPermutation loans others → times key others ≡ times key loans
  times-permuted key loans others moved = sum_by-IsPermutation (counts key) loans others moved

  pub have-not : (key : ℕ) (loans : List (LoanOf T)) → times key loans ≡ 0 → HaveNot key loans
  have-not key [] none = All-nil (λ (loan : LoanOf T). loan.key ≢ key)
  have-not key (x ∷ xs) none =
      let sum = times-cons key x xs in
      All-cons (λ (loan : LoanOf T). loan.key ≢ key) x xs (λ same. let one = counts-one key x same in absurd (omega (arith, sum, one, none)))
      (have-not key xs (omega (arith, sum, none)))

  pub times-none : (key : ℕ) (loans : List (LoanOf T)) → HaveNot key loans → times key loans ≡ 0
  times-none key [] none = refl
  times-none key (x ∷ xs) none =
      let P = λ (loan : LoanOf T). loan.key ≢ key in let sum = times-cons key x xs in
      let here = counts-none key x (All-head P x xs none) in let there = times-none key xs (All-tail P x xs none) in sum ∙ omega (arith, here, there)

  pub times-among : (key : ℕ) (loans : List (LoanOf T)) (loan : LoanOf T) → Contains loans loan → loan.key ≡ key → 1 ≤ times key loans
  times-among key loans loan among same =
      dite (ℕ_discrete (times key loans) 0)
      (λ (none : times key loans ≡ 0). absurd (All-contains (λ (other : LoanOf T). other.key ≢ key) loans loan (have-not key loans none) among same))
      (λ (some : times key loans ≢ 0). omega (arith, some))
