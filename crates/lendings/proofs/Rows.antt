-- Loans in a row.
use Rattle.std.proofs.Common.{◌≡◌, ◌≢◌, ◌<◌, ℕ, List, [], ◌∷◌, ◌++◌, Contains, length, slice_index_or, swap_remove, refl, sym, ap, ◌∙◌, subst, arith}
use Rattle.std.specs.List.Sorted.{IsPermutation}
use Rattle.std.proofs.lemmas.List.{map-append}
use Rattle.std.proofs.lemmas.List.Elements.{All-map, Contains-get_or}
use Rattle.std.proofs.lemmas.List.Sorted.{IsPermutation-map, IsPermutation-swap_remove, IsPermutation-to_front, IsPermutation-trans, IsPermutation-sym, Contains-permutation}
use Rattle.shardpool.specs.Loans.{LoanOf}
use Rattle.lendings.specs.declared.out.Out.{Out}
use Rattle.lendings.specs.Lenders.{HaveNot}
use Rattle.lendings.specs.Outs.{loan_of, loans_of}

module _ {T : Type 0} where
  -- none is under a key that no row says
  pub none-of : (out : List (Out T)) (key : ℕ) → ((k : ℕ) (d : Out T) → k < length out → (slice_index_or out k d).key ≢ key) → HaveNot key (loans_of out)
  none-of out key none =
      All-map (λ (loan : LoanOf T). loan.key ≢ key) loan_of out (λ k d low same. none k d low ((slice_index_or out k d).under ∙ same))

  -- one more, behind the others
  pub loans-push : (old new : List (Out T)) (one : Out T) (loan : LoanOf T) → new ≡ old ++ one ∷ [] → loan_of one ≡ loan → loans_of new ≡ loans_of old ++ loan ∷ []
  loans-push old new one loan is same =
      ap loans_of is ∙ (map-append loan_of old (one ∷ []) ∙ ap (λ (l : LoanOf T). loans_of old ++ l ∷ []) same)

  -- one taken out
  pub loans-taken : (old rest : List (Out T)) (index : ℕ) (one : Out T) (loan : LoanOf T) → index < length old → one ≡ slice_index_or old index one → rest ≡ swap_remove old index one
      → loan ≡ loan_of one → IsPermutation (loans_of old) (loan ∷ loans_of rest)
  loans-taken old rest index one loan low value is same =
      subst (λ (l : LoanOf T). IsPermutation (loans_of old) (l ∷ loans_of rest)) (sym same)
      (IsPermutation-map loan_of old (one ∷ rest)
      (subst (λ (r : List (Out T)). IsPermutation old (one ∷ r)) (sym is) (IsPermutation-swap_remove old index one low value)))

  -- and put back
  pub loans-back : (old rest new : List (Out T)) (one : Out T) (loan : LoanOf T) → new ≡ rest ++ one ∷ [] → loan_of one ≡ loan → IsPermutation (loans_of old) (loan ∷ loans_of rest)
      → IsPermutation (loans_of old) (loans_of new)
  loans-back old rest new one loan is same taken =
      subst (λ (loans : List (LoanOf T)). IsPermutation (loans_of old) loans) (sym (loans-push rest new one loan is same))
      (IsPermutation-trans (loans_of old) (loan ∷ loans_of rest) (loans_of rest ++ loan ∷ []) taken
      (IsPermutation-sym (loans_of rest ++ loan ∷ []) (loan ∷ loans_of rest) (IsPermutation-to_front (loans_of rest) loan)))

  -- what was taken was among them
  pub taken-among : (loans rest : List (LoanOf T)) (loan : LoanOf T) → IsPermutation loans (loan ∷ rest) → Contains loans loan
  taken-among loans rest loan moved =
      let few : 0 < length (loan ∷ rest) = omega arith in
      Contains-permutation (loan ∷ rest) loans loan (IsPermutation-sym loans (loan ∷ rest) moved) (Contains-get_or (loan ∷ rest) 0 loan few)

  -- the loan of a row is among them
  pub row-among : (out : List (Out T)) (index : ℕ) (one : Out T) → index < length out → one ≡ slice_index_or out index one → Contains (loans_of out) (loan_of one)
  row-among out index one low value =
      taken-among (loans_of out) (loans_of (swap_remove out index one)) (loan_of one) (loans-taken out (swap_remove out index one) index one (loan_of one) low value refl refl)
