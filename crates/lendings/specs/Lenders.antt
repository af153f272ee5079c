-- What a lender has.
use Rattle.std.specs.Prelude.{◌≡◌, ◌≢◌, ◌==◌, ℕ, ◌≤◌, List, All, Contains, length, sum_by, if◌then◌else◌}
use mathlib.Core.List.{IsPrefix}
use Rattle.shardpool.specs.Tokens.{LaneOf}
use Rattle.shardpool.specs.Lanes.{holds, refs}
use Rattle.shardpool.specs.Loans.{LoanOf, IsLent}
use Rattle.poollaws.specs.Cleared.{cleared_by}

-- a lane, and the loans that are out
pub record LenderOf (T : Type 0) : Type 0 where
  pub lane : LaneOf
  pub loans : List (LoanOf T)

-- what the lane has seen goes on, and it cleared no key
pub record GoesOnQuietly (old new : LaneOf) : Type 0 where
  pub seen : IsPrefix old.book.seen new.book.seen
  pub cleared : cleared_by new ≡ cleared_by old

-- how many are under this key
abbrev pub times : {T : Type 0} → ℕ → List (LoanOf T) → ℕ
times key loans = sum_by (λ loan. if loan.key == key then 1 else 0) loans

-- none is
abbrev pub HaveNot : {T : Type 0} → ℕ → List (LoanOf T) → Type 0
HaveNot key loans = All (λ loan. loan.key ≢ key) loans

module _ {T : Type 0} (content : T → List ℕ) (room : T → ℕ) where
  -- each is lent by the lane, under a key of its own, and the lane has these references and no others
  pub record AreOut (lane : LaneOf) (loans : List (LoanOf T)) : Type 0 where
    pub lent : All (IsLent content room lane) loans
    pub single : (key : ℕ) → times key loans ≤ 1
    pub counted : (key : ℕ) → holds lane key ≡ times key loans
    pub all : refs lane ≡ length loans

  -- this one is out, under this key: the lane lends it, and has one reference to the key
  pub record IsOut (key : ℕ) (lender : LenderOf T) (loan : LoanOf T) : Type 0 where
    pub under : loan.key ≡ key
    pub among : Contains lender.loans loan
    pub lent : IsLent content room lender.lane loan
    pub once : holds lender.lane key ≡ 1
