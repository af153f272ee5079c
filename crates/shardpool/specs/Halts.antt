-- What a call does that a lane makes last, and that ends for good after so many steps.
use Rattle.std.specs.Prelude.{◌≡◌, ℕ, ◌<◌, ◌≤◌, false, List, [], Option}
use Rattle.atomic_table.specs.Seated.{TableId}
use Rattle.atomic_table.specs.declared.shared.Seat.{Seat}
use Rattle.poolsteps.specs.Share.{Share}
use Rattle.keybits.specs.declared.shape.Shape.{Shape}
use Rattle.keybits.specs.Keys.{is_key}
use Rattle.steplaws.specs.Calls.{Call}
use Rattle.steplaws.specs.Calls.Call.{Getting, Releasing, Clearing}
use Rattle.steplaws.specs.Facts.{most_references}
use Rattle.poolsteps.specs.declared.view.View.{View}
use Rattle.shardpool.specs.Halted.{CalledWithin}
use Rattle.shardpool.specs.declared.halt.LastCall.{LastCall}
use Rattle.shardpool.specs.declared.halt.LastCall.TheVariants.{Get, Clear, Release, Create}
use Rattle.shardpool.specs.declared.pool.LaneState.{LaneState}
use Rattle.shardpool.specs.Tokens.{PoolOf, LaneOf}
use Rattle.shardpool.specs.Lanes.{refs, holds}
use Rattle.shardpool.specs.Creates.{creating}
use Rattle.shardpool.specs.LaneStates.{Fits}

-- a lane whose last call was ended: the table and the shape of its pool, its number, and the view of its seat
pub record HaltedOf : Type 0 where
  pub table : TableId
  pub shape : Shape
  pub number : ℕ
  pub book : View

-- the lane may make this call last: a get below the most references, a release of a key to which it refers, and any clear or create
abbrev pub MayMakeLast : {T : Type 0} → LaneOf → LastCall T → Type 0
MayMakeLast lane (Get key) = refs lane < most_references
MayMakeLast lane (Clear key) = Unit {0}
MayMakeLast lane (Release reference) = 1 ≤ holds lane reference.key
MayMakeLast lane Create = Unit {0}

-- the call of the steps that it then makes
abbrev pub last_call : {T : Type 0} → LaneOf → LastCall T → Call
last_call lane (Get key) = Getting key
last_call lane (Clear key) = Clearing key
last_call lane (Release reference) = Releasing reference.key
last_call lane Create = creating lane

-- it is a get or a clear of a number that is no key of the shape
abbrev pub IsOutside : {T : Type 0} → Shape → LastCall T → Type 0
IsOutside z (Get key) = is_key z key ≡ false
IsOutside z (Clear key) = is_key z key ≡ false
IsOutside z (Release reference) = ⊥
IsOutside z Create = ⊥

-- the lane made the first so many steps of its last call, or all where it has no more, and outside the shape not even a look
pub record HaltsIn {T : Type 0} (lane : LaneOf) (call : LastCall T) (limit : ℕ) (halted : HaltedOf) : Type 0 where
  pub outside : IsOutside lane.shape call → halted.book ≡ lane.book
  pub called : CalledWithin {S = Unit {0}} lane.shape (last_call lane call) limit (lane.book, []) (halted.book, [])

-- ---- the parts of a halt

-- the hand and the state are those of a lane of the pool
pub record AreParts {T : Type 0} (content : T → List ℕ) (room : T
    → ℕ) (pool : PoolOf) (hand : Seat (Option (Share T)) View) (state : LaneState T) : Type 0 where
  pub table : hand.table_id ≡ pool.table
  pub directory : state.objects.directory ≡ pool.directory
  pub bare : hand.me.1 ≡ []
  pub fits : Fits content room pool.shape hand.me.0 state
