-- What becomes of a lender where a key is owned, or an owner given back.
use Rattle.std.specs.Prelude.{◌≡◌, ◌≢◌, ◌⊎◌, ◌≤◌, ◌++◌, ◌∷◌, [], ℕ, Bool, true, false, List, Option, Some, None, Result, Ok, Err}
use Rattle.std.specs.List.Sorted.{IsPermutation}
use Rattle.steplaws.specs.Facts.{most_references}
use Rattle.shardpool.specs.Tokens.{PoolOf, LaneOf}
use Rattle.shardpool.specs.Lanes.{refs}
use Rattle.shardpool.specs.AfterCalls.{AfterGet, AfterRelease}
use Rattle.shardpool.specs.Loans.{LoanOf}
use Rattle.lendings.specs.declared.refusal.Refusal.{Refusal}
use Rattle.lendings.specs.declared.refusal.Refusal.TheVariants.{References, Memory, Owners}
use Rattle.lendings.specs.Lenders.{LenderOf, HaveNot, IsOut}
use Rattle.lendings.specs.Owners.{OwnedOf}

-- an owner more of this loan, of the lane of this number; or it has as many as can be counted
abbrev pub Shares : {T : Type 0} → ℕ → LoanOf T → Result (Option (OwnedOf T)) Refusal → Type 0
Shares number loan (Ok (Some owned)) = owned ≡ record { lane = number; loan = loan }
Shares number loan (Ok None) = ⊥
Shares number loan (Err refusal) = refusal ≡ Owners

module _ {T : Type 0} (content : T → List ℕ) (room : T → ℕ) (pool : PoolOf) where
  -- ---- of this key

  module _ (key : ℕ) where
    -- a get found it, and its loan is out, behind the others
    abbrev pub Begins : LenderOf T → LenderOf T → LoanOf T → Type 0
    Begins old new loan = AfterGet T pool key old.lane new.lane (Some (record { key = key })) × (new.loans ≡ old.loans ++ loan ∷ [])

    -- a get missed it
    abbrev pub Misses : LenderOf T → LenderOf T → Type 0
    Misses old new = AfterGet T pool key old.lane new.lane None × (new.loans ≡ old.loans)

    -- memory was refused: before the get; or for the loan that it found, which was given back at once
    abbrev pub Lacks : LenderOf T → LenderOf T → Type 0
    Lacks old new = (new.loans ≡ old.loans) × ((new.lane ≡ old.lane) ⊎ ((middle : LaneOf)
        × AfterGet T pool key old.lane middle (Some (record { key = key })) × AfterRelease T pool key middle new.lane))

    -- after a get of the key, of which no loan was out: whether its loan is out
    abbrev pub Begun : LenderOf T → LenderOf T → Result Bool Refusal → Type 0
    Begun old new (Ok true) = (loan : LoanOf T) × (loan.key ≡ key) × Begins old new loan
    Begun old new (Ok false) = Misses old new
    Begun old new (Err References) = (new ≡ old) × (most_references ≤ refs old.lane)
    Begun old new (Err Memory) = Lacks old new
    Begun old new (Err Owners) = ⊥

    -- the key's loan was out, and nothing is done; or it begins
    abbrev pub HasOut : LenderOf T → LenderOf T → LoanOf T → Type 0
    HasOut old new loan = IsOut content room key new loan × ((new ≡ old) ⊎ (HaveNot key old.loans × Begins old new loan))

    -- after the key was to be owned, with this answer
    abbrev pub IsOwned : LenderOf T → LenderOf T → Result (Option (OwnedOf T)) Refusal → Type 0
    IsOwned old new (Ok (Some owned)) = (owned.lane ≡ old.lane.number) × HasOut old new owned.loan
    IsOwned old new (Ok None) = HaveNot key old.loans × Misses old new
    IsOwned old new (Err References) = HaveNot key old.loans × (new ≡ old) × (most_references ≤ refs old.lane)
    IsOwned old new (Err Memory) = HaveNot key old.loans × Lacks old new
    IsOwned old new (Err Owners) = (loan : LoanOf T) × HasOut old new loan

    -- its loan ended by a release, and none of the key is out; or it stays out, and nothing is done
    abbrev pub Ended : LenderOf T → LenderOf T → Bool → Type 0
    Ended old new true = (loan : LoanOf T) × (loan.key ≡ key) × IsPermutation old.loans (loan ∷ new.loans) × HaveNot key new.loans
        × AfterRelease T pool key old.lane new.lane
    Ended old new false = (loan : LoanOf T) × IsOut content room key old loan × IsPermutation old.loans new.loans × (new.lane ≡ old.lane)

  -- after an owner was given back, with this answer
  abbrev pub Disowns : OwnedOf T → LenderOf T → LenderOf T → Result Bool (OwnedOf T) → Type 0
  Disowns owned old new (Ok last) = (owned.lane ≡ old.lane.number) × Ended owned.loan.key old new last
  Disowns owned old new (Err back) = (back ≡ owned) × (new ≡ old) × ((owned.lane ≢ old.lane.number) ⊎ HaveNot owned.loan.key old.loans)
