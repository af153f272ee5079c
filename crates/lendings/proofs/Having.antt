-- Whose loan an owner has.
use Rattle.std.proofs.Common.{◌≡◌, ◌≢◌, ◌<◌, ℕ, inl, inr, true, List, Option, Some, None, Result, Ok, Err, Contains, length, slice_index_or, refl, sym, ap, ◌∙◌, subst}
use Rattle.std.proofs.lemmas.List.Elements.{All-contains, Contains-push_cases}
use Rattle.shardpool.specs.Tokens.{PoolOf, LaneOf}
use Rattle.shardpool.specs.Loans.{LoanOf}
use Rattle.lendings.specs.declared.out.Out.{Out}
use Rattle.lendings.specs.declared.refusal.Refusal.{Refusal}
use Rattle.lendings.specs.declared.refusal.Refusal.TheVariants.{References, Memory, Owners}
use Rattle.lendings.specs.Lenders.{LenderOf, HaveNot, AreOut}
use Rattle.lendings.specs.Outs.{loan_of, loans_of, lender_of}
use Rattle.lendings.specs.Owners.{OwnedOf}
use Rattle.lendings.specs.Owning.{Begins, Begun, Shares, HasOut, IsOwned}
use Rattle.lendings.proofs.Keeping.{is-out}
use Rattle.lendings.proofs.Rows.{row-among}

module _ {T : Type 0} (content : T → List ℕ) (room : T → ℕ) (pool : PoolOf) (key : ℕ) where
  -- of a row that was there
  pub has-there : (lane : LaneOf) (out : List (Out T)) (index : ℕ) (one : Out T) → index < length out → one ≡ slice_index_or out index one → one.key ≡ key
      → AreOut content room lane (loans_of out) → HasOut content room pool key (lender_of lane out) (lender_of lane out) (loan_of one)
  has-there lane out index one low value same are =
      (is-out content room lane (loans_of out) (loan_of one) key (sym one.under ∙ same) (row-among out index one low value) are, inl refl)

  -- of a row that came
  pub has-begun : (old : LenderOf T) (lane : LaneOf) (out : List (Out T)) (index : ℕ) (one : Out T) → HaveNot key old.loans → Begun content room pool key old (lender_of lane out) (Ok true)
      → AreOut content room lane (loans_of out) → index < length out → one ≡ slice_index_or out index one → one.key ≡ key → HasOut content room pool key old (lender_of lane out) (loan_of one)
  has-begun old lane out index one none begun are low value same =
      let under = sym one.under ∙ same in
      let among = row-among out index one low value in
      let it : begun.0 ≡ loan_of one = elim (Contains-push_cases old.loans begun.0 (loan_of one) (subst (λ (loans : List (LoanOf T)). Contains loans (loan_of one)) begun.2.1 among)) [
        | inl was ↦ absurd (All-contains (λ (loan : LoanOf T). loan.key ≢ key) old.loans (loan_of one) none was under)
        | inr is ↦ is
      ] in (
        is-out content room lane (loans_of out) (loan_of one) key under among are,
        inr (none, subst (λ (loan : LoanOf T). Begins content room pool key old (lender_of lane out) loan) it begun.2),
      )

  -- none
  pub owned-refused : (old new : LenderOf T) (refusal : Refusal) → HaveNot key old.loans → Begun content room pool key old new (Err refusal) → IsOwned content room pool key old new (Err refusal)
  owned-refused old new References none begun = (none, begun.0, begun.1)
  owned-refused old new Memory none begun = (none, begun)
  owned-refused old new Owners none begun = absurd begun

  -- one owner more of it
  pub owned-shared : (old new : LenderOf T) (number : ℕ) (loan : LoanOf T) (result : Result (Option (OwnedOf T)) Refusal) → number ≡ old.lane.number → HasOut content room pool key old new loan
      → Shares number loan result → IsOwned content room pool key old new result
  owned-shared old new number loan (Ok (Some owned)) is has shares =
      (ap (λ (o : OwnedOf T). o.lane) shares ∙ is, subst (λ (l : LoanOf T). HasOut content room pool key old new l) (sym (ap (λ (o : OwnedOf T). o.loan) shares)) has)
  owned-shared old new number loan (Ok None) is has shares = absurd shares
  owned-shared old new number loan (Err refusal) is has shares =
      subst (λ (r : Refusal). IsOwned content room pool key old new (Err r)) (sym shares) (loan, has)
