-- What a contract sees of a reference that travels.
use Rattle.std.specs.Prelude.{◌≡◌, ℕ, List, Some, refl}
use Rattle.std.specs.Coded.{Coded, code_by, coded×, coded_ℕ}
use Rattle.poolsteps.specs.Share.{Share}
use Rattle.shardpool.specs.Tokens.{LaneOf}
use Rattle.shardpool.specs.Loans.{LoanOf, loan_code}
use Rattle.poollaws.specs.Words.{IsPublished}

-- the number of the lane that has the reference, and the loan that it owns with others
pub record OwnedOf (T : Type 0) : Type 0 where
  pub lane : ℕ
  pub loan : LoanOf T

-- a code for owned references, by one for their objects
abbrev pub owned_code : {T : Type 0} → Coded T → Coded (OwnedOf T)
owned_code {T} code = code_by (ℕ × LoanOf T) (coded× coded_ℕ (loan_code code)) (λ o. (o.lane, o.loan))
    (λ p. record { lane = p.0; loan = p.1 }) (λ _. refl)

-- the owner is of this key, and shows the content that the lane has seen published under it
pub record ShowsKey {T : Type 0} (content : T → List ℕ) (key : ℕ) (lane : LaneOf) (owned : OwnedOf T) : Type 0 where
  pub under : owned.loan.key ≡ key
  pub share : Share T
  pub share_is : owned.loan.share ≡ Some share
  pub shows : (bytes : List ℕ) → IsPublished lane.book.seen key bytes → content share.object ≡ bytes
