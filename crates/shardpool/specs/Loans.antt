-- What a lending lane keeps, and what it lends.
use Rattle.std.specs.Prelude.{◌≡◌, ◌≢◌, ℕ, ◌≤◌, List, length, sum_by, Option, Some, refl}
use Rattle.std.specs.Coded.{Coded, code_by, coded×, coded_ℕ, coded_option}
use Rattle.std.specs.declared.alloc.Global.{Global}
use Rattle.std_alloc.specs.declared.vec.Vec.{Vec}
use Rattle.keybits.specs.declared.shape.Shape.{Shape}
use Rattle.keybits.specs.Keys.{place_of, generation_of}
use Rattle.seqpool.specs.Histories.{PublishedAt}
use Rattle.poolsteps.specs.Layout.{slot_start, slot_row}
use Rattle.poolsteps.specs.Share.{Share, share_code}
use Rattle.poolsteps.specs.declared.view.View.{View}
use Rattle.shardpool.specs.HeldKeys.{HeldKey}
use Rattle.shardpool.specs.declared.pool.LaneState.{LaneState}
use Rattle.shardpool.specs.Rows.{AreStanding}
use Rattle.shardpool.specs.LaneStates.{IsHeld, Fits}
use Rattle.shardpool.specs.Tokens.{LaneOf}
use Rattle.shardpool.specs.Lanes.{holds}

-- a loan: its key, where the key's place stands, and the share that it has
pub record LoanOf (T : Type 0) : Type 0 where
  pub key : ℕ
  pub start : ℕ
  pub share : Option (Share T)

-- a code for loans, by one for their objects
abbrev pub loan_code : {T : Type 0} → Coded T → Coded (LoanOf T)
loan_code {T} code = code_by ((ℕ × ℕ)
    × Option (Share T)) (coded× (coded× coded_ℕ coded_ℕ) (coded_option (share_code code))) (λ l. ((l.key, l.start), l.share))
    (λ p. record { key = p.0.0; start = p.0.1; share = p.1 }) (λ _. refl)

module _ {T : Type 0} (content : T → List ℕ) (room : T → ℕ) where
  -- the lane lends the share under its reference to the loan's key: it stands where the loan says, and shows the content that was published under the key
  pub record IsLent (lane : LaneOf) (loan : LoanOf T) : Type 0 where
    pub held : 1 ≤ holds lane loan.key
    pub start : loan.start ≡ slot_start lane.shape (place_of loan.key)
    pub share : Share T
    pub share_is : loan.share ≡ Some share
    pub spot : share.spot ≡ record { directory = lane.directory; index = loan.start }
    pub under : IsHeld content room lane.shape lane.book (place_of loan.key) (generation_of loan.key) share
    pub shows : (j : ℕ) × PublishedAt lane.book.seen j loan.key (content share.object)

  -- what the lane lends it lends still
  abbrev pub KeepsLoans : LaneOf → LaneOf → Type 0
  KeepsLoans old new = (loan : LoanOf T) → IsLent old loan → IsLent new loan

  -- all but what it lends of this key
  abbrev pub KeepsOtherLoans : ℕ → LaneOf → LaneOf → Type 0
  KeepsOtherLoans key old new = (loan : LoanOf T) → loan.key ≢ key → IsLent old loan → IsLent new loan

-- the rows count no reference
pub record AreBare {T : Type 0} (s : LaneState T) : Type 0 where
  pub wide : length s.rows.items ≡ slot_row s.shape
  pub none : sum_by (λ row. row.count) s.rows.items ≡ 0
  pub standing : AreStanding s.objects.directory s.rows.items

-- what a lane that lends all its shares keeps fits, were its rows those that it would have with them
pub record FitsLending {T : Type 0} (content : T → List ℕ) (room : T → ℕ) (z : Shape) (v : View) (s : LaneState T) : Type 0 where
  pub rows : Vec (HeldKey T) Global
  pub fits : Fits content room z v (record s { rows = rows })
  pub bare : AreBare s
