-- What becomes of a lender where all loans end that can.
use Rattle.std.specs.Prelude.{◌≡◌, ◌++◌, ◌∷◌, [], ℕ, List}
use Rattle.std.specs.List.Sorted.{IsPermutation}
use Rattle.shardpool.specs.Tokens.{PoolOf, LaneOf}
use Rattle.shardpool.specs.Lanes.{Owns, SameLane}
use Rattle.shardpool.specs.AfterCalls.{AfterRelease}
use Rattle.shardpool.specs.Loans.{LoanOf, IsLent}
use Rattle.lendings.specs.Lenders.{LenderOf, HaveNot, GoesOnQuietly}

-- the lane gave back these loans, the last of them first here
abbrev pub GaveBack : {T : Type 0} → PoolOf → List (LoanOf T) → LaneOf → LaneOf → Type 0
GaveBack pool [] old new = new ≡ old
GaveBack {T} pool (loan ∷ before) old new = (middle : LaneOf) × GaveBack pool before old middle × AfterRelease T pool loan.key middle new

-- some loans ended, each by a release; the others are out still, in some order, and what the lane lends of other keys it lends still
pub record Sweeps {T : Type 0} (content : T → List ℕ) (room : T → ℕ) (pool : PoolOf) (old new : LenderOf T) : Type 0 where
  pub owns : Owns pool new.lane
  pub same : SameLane old.lane new.lane
  pub quiet : GoesOnQuietly old.lane new.lane
  pub back : List (LoanOf T)
  pub loans : IsPermutation old.loans (back ++ new.loans)
  pub gave : GaveBack pool back old.lane new.lane
  pub kept : (loan : LoanOf T) → HaveNot loan.key back → IsLent content room old.lane loan → IsLent content room new.lane loan
