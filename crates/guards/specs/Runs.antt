-- Jobs that ran on the lanes of a pool.
use Rattle.std.specs.Prelude.{◌≡◌, ℕ, ◌<◌, ◌≤◌, List, length, Option, Some, None, slice_get}
use Rattle.shardpool.specs.Tokens.{LaneOf}
use Rattle.guards.specs.Here.{LanesOf, lane_at, AreHereBelow}

-- a job ran on the lane of its number: it took the lane from what it was to what it is, and gave this answer
pub record RanOn {J A : Type 0} (does : J → LaneOf → LaneOf → A
    → Type 0) (old new : LanesOf) (number : ℕ) (job : J) (answer : A) : Type 0 where
  pub before : LaneOf
  pub after : LaneOf
  pub was : lane_at old number ≡ Some before
  pub is : lane_at new number ≡ Some after
  pub did : does job before after answer

-- each job ran on the lane of its number, and these are their answers, in order; the lanes are back, and those without a job are as before
pub record AllRan {J A : Type 0} (does : J → LaneOf → LaneOf → A
    → Type 0) (old new : LanesOf) (jobs : List J) (answers : List A) : Type 0 where
  pub pool : new.pool ≡ old.pool
  pub count : length answers ≡ length jobs
  pub each : (number : ℕ) (job : J) (answer : A) → slice_get jobs number ≡ Some job → slice_get answers number ≡ Some answer
      → RanOn does old new number job answer
  pub others : (number : ℕ) → length jobs ≤ number → lane_at new number ≡ lane_at old number

-- the number is that of the first of so many jobs that has no lane
pub record IsFirstUnseated (lanes : LanesOf) (jobs number : ℕ) : Type 0 where
  pub below : number < jobs
  pub missing : lane_at lanes number ≡ None
  pub first : AreHereBelow lanes number

-- ---- the parts of a run

-- a job took its lane from before to after, which is still the same lane, and the answer is there
pub record IsDone {J A : Type 0} (does : J → LaneOf → LaneOf → A
    → Type 0) (job : J) (before after : LaneOf) (answered : Option A) : Type 0 where
  pub answer : A
  pub is : answered ≡ Some answer
  pub did : does job before after answer
  pub number : after.number ≡ before.number

-- each lane of the list is that of the number at which it stands
abbrev pub AreFrom : LanesOf → List LaneOf → Type 0
AreFrom lanes list = (number : ℕ) (lane : LaneOf) → slice_get list number ≡ Some lane → (lane_at lanes number ≡ Some lane)
    × (lane.number ≡ number)

-- each lane of the list stands here under its number, and the others are as before
pub record AreBack (old new : LanesOf) (list : List LaneOf) : Type 0 where
  pub pool : new.pool ≡ old.pool
  pub each : (number : ℕ) (lane : LaneOf) → slice_get list number ≡ Some lane → lane_at new number ≡ Some lane
  pub others : (number : ℕ) → length list ≤ number → lane_at new number ≡ lane_at old number
