-- What holds after each call of a lane: the contracts of the pool, a record for each call.
use Rattle.std.specs.Prelude.{◌≡◌, ◌≢◌, ◌==◌, ◌+◌, ◌-◌, ◌<◌, ◌≤◌, ◌⊎◌, ◌↔◌, ℕ, Bool, true, false, List, [], ◌∷◌, Option, Result, is_some, IsNone, IsSome, IfSome, IsTrue, IsFalse, IfOk, IsOk, IsErr, IsErrOf, if◌then◌else◌}
use mathlib.Core.List.{IsPrefix}
use Rattle.keybits.specs.Keys.{is_key, place_of}
use Rattle.seqpool.specs.declared.act.Act.{Act}
use Rattle.seqpool.specs.declared.act.Act.TheVariants as acts
use Rattle.poolsteps.specs.Shares.{room_of}
use Rattle.steplaws.specs.Calls.Call.{Publishing, Getting, Releasing, Clearing}
use Rattle.shardpool.specs.declared.create.CreateFault.{CreateFault}
use Rattle.shardpool.specs.declared.create.CreateFault.TheVariants.{Full, Memory}
use Rattle.shardpool.specs.Tokens.{PoolOf, LaneOf, FillingOf, RefOf}
use Rattle.shardpool.specs.Lanes.{Owns, Made, SameLane, Calls, Did, Gets, holds, refs}
use Rattle.shardpool.specs.Seen.{PublishedSince, FoundSince, MissedSince, ClearedSince}
use Rattle.shardpool.specs.Creates.{Gives, GivesNone}

-- ---- what calls have in common

-- it is the same lane of the pool, and what it had seen it has seen
pub record Continues (pool : PoolOf) (old new : LaneOf) : Type 0 where
  pub owns : Owns pool new
  pub same : SameLane old new
  pub seen : IsPrefix old.book.seen new.book.seen

-- each filling that the lane had made is one of its fillings still
abbrev pub KeepsFillings : Type 0 → LaneOf → LaneOf → Type 0
KeepsFillings T old new = (filling : FillingOf T) → Made old filling → Made new filling

-- each but that of this key
abbrev pub KeepsOthers : Type 0 → ℕ → LaneOf → LaneOf → Type 0
KeepsOthers T key old new = (other : FillingOf T) → other.key ≢ key → Made old other → Made new other

-- the lane has as many references to each key as before
abbrev pub HoldsAsMany : LaneOf → LaneOf → Type 0
HoldsAsMany old new = (k : ℕ) → holds new k ≡ holds old k

-- it has one more to this key, and else as many as before
abbrev pub HoldsOneMore : ℕ → LaneOf → LaneOf → Type 0
HoldsOneMore key old new = (k : ℕ) → holds new k ≡ (if key == k then holds old k + 1 else holds old k)

-- it has one less to this key, and else as many as before
abbrev pub HoldsOneLess : ℕ → LaneOf → LaneOf → Type 0
HoldsOneLess key old new = (k : ℕ) → holds new k ≡ (if key == k then holds old k - 1 else holds old k)

-- ---- gets

-- after a get of the key, with this answer
pub record AfterGet (T : Type 0) (pool : PoolOf) (key : ℕ) (old new : LaneOf) (result : Option RefOf) : Type 0 where
  pub continues : Continues pool old new
  pub open continues use *
  -- a number that is no key of the pool: None, without a step
  pub outside : is_key pool.shape key ≡ false → IsNone result × (new ≡ old)
  -- a key of the pool: the lane made this call, and its acts are those of a get with this answer
  pub called : is_key pool.shape key ≡ true → Calls pool.shape (Getting key) old.book new.book
  pub gets : is_key pool.shape key ≡ true → Gets key old new result
  -- found: it was published, and not cleared; missed: if it was published before, it was cleared
  pub found : IsSome result → FoundSince key old new
  pub missed : IsNone result → MissedSince key old new
  -- found: the lane has one reference more, to the key; missed: all are as before
  pub refs : refs new ≡ refs old + (if is_some result then 1 else 0)
  pub held : IfSome result (λ reference. (reference.key ≡ key) × (1 ≤ holds new reference.key))
  pub one_more : IsSome result → HoldsOneMore key old new
  pub no_more : IsNone result → HoldsAsMany old new
  pub fillings : KeepsFillings T old new

-- ---- releases

-- after a release of a reference to the key
pub record AfterRelease (T : Type 0) (pool : PoolOf) (key : ℕ) (old new : LaneOf) : Type 0 where
  pub continues : Continues pool old new
  pub open continues use *
  -- the lane made this call, and its acts are those of a release
  pub called : Calls pool.shape (Releasing key) old.book new.book
  pub releases : (rest : List Act) × Did (acts.Release old.number key ∷ rest) old new
  -- it has one reference less, to the key
  pub refs : refs new + 1 ≡ refs old
  pub one_less : HoldsOneLess key old new
  pub fillings : KeepsFillings T old new

-- after a release by key, with this answer
pub record AfterReleaseKey (T : Type 0) (pool : PoolOf) (key : ℕ) (old new : LaneOf) (result : Bool) : Type 0 where
  pub continues : Continues pool old new
  pub open continues use *
  -- true where the lane had a reference to the key: it is then given back; else nothing is done
  pub held : IsTrue result ↔ (1 ≤ holds old key)
  pub released : IsTrue result → AfterRelease T pool key old new
  pub none : IsFalse result → new ≡ old
  pub refs : refs new + (if result then 1 else 0) ≡ refs old
  pub fillings : KeepsFillings T old new

-- ---- clears

-- after a clear of the key, with this answer
pub record AfterClear (T : Type 0) (pool : PoolOf) (key : ℕ) (old new : LaneOf) (result : Bool) : Type 0 where
  pub continues : Continues pool old new
  pub open continues use *
  -- a number that is no key of the pool: false, without a step
  pub outside : is_key pool.shape key ≡ false → (result ≡ false) × (new ≡ old)
  -- a key of the pool: the lane made this call, and its acts are those of a clear with this answer
  pub called : is_key pool.shape key ≡ true → Calls pool.shape (Clearing key) old.book new.book
  pub clears : is_key pool.shape key ≡ true → (rest : List Act) × Did (acts.Clear old.number key result ∷ rest) old new
  -- true: it marked the key, which was published and not cleared; false: if it was published before, it was cleared
  pub cleared : IsTrue result → ClearedSince key old new
  pub missed : IsFalse result → MissedSince key old new
  -- all references are as before
  pub refs : refs new ≡ refs old
  pub held : HoldsAsMany old new
  pub fillings : KeepsFillings T old new

-- ---- publishes and creates

module _ {T : Type 0} (content : T → List ℕ) (size : T → ℕ) where
  -- the filling is published, with a reference or without one
  pub record IsPublishing (pool : PoolOf) (filling : FillingOf T) (with_ref : Bool) (old new : LaneOf) : Type 0 where
    pub continues : Continues pool old new
    pub open continues use *
    -- the lane made this call, whose act is a publish of the key with the content that was written last
    pub called : Calls pool.shape (Publishing filling.key (content filling.object) with_ref) old.book new.book
    pub publishes : Did (acts.Publish old.number filling.key (content filling.object) with_ref ∷ []) old new
    pub published : PublishedSince filling.key (content filling.object) with_ref old new
    -- the lane knows the room of the place: that of the object
    pub room : room_of new.book.seen new.book.rooms (place_of filling.key) ≡ size filling.object
    -- it is no filling of the lane any more; the others are
    pub fillings : KeepsOthers T filling.key old new

  -- after a publish of the filling, with this answer
  pub record AfterPublish (pool : PoolOf) (filling : FillingOf T) (old new : LaneOf) (result : ℕ) : Type 0 where
    pub key : result ≡ filling.key
    pub publishing : IsPublishing pool filling false old new
    pub open publishing use *
    -- all references are as before
    pub refs : refs new ≡ refs old
    pub held : HoldsAsMany old new

  -- after a downgrade of the filling, with this answer: the lane has one reference more, to its key
  pub record AfterDowngrade (pool : PoolOf) (filling : FillingOf T) (old new : LaneOf) (result : RefOf) : Type 0 where
    pub key : (result.key ≡ filling.key) × (1 ≤ holds new filling.key)
    pub publishing : IsPublishing pool filling true old new
    pub open publishing use *
    pub refs : refs new ≡ refs old + 1
    pub one_more : HoldsOneMore filling.key old new

  -- after a create, with this answer
  pub record AfterCreate (pool : PoolOf) (old new : LaneOf) (result : Result (FillingOf T) CreateFault) : Type 0 where
    pub continues : Continues pool old new
    pub open continues use *
    -- Ok: a filling that is none of those that the lane had; a fault: nothing was free
    pub gives : IfOk result (Gives content size old new)
    pub apart : IfOk result (λ filling. (other : FillingOf T) → Made old other → other.key ≢ filling.key)
    pub none : IsErr result → GivesNone old new
    -- Full: all pages were opened; Memory: one was not; and where a place is free with the lane, no fault
    pub full : IsErrOf result Full → old.pages.opened ≡ old.shape.pages
    pub memory : IsErrOf result Memory → old.pages.opened < old.shape.pages
    pub succeeds : ((old.free.own ≢ []) ⊎ IsSome old.free.chain) → IsOk result
    -- all references are as before
    pub refs : refs new ≡ refs old
    pub held : HoldsAsMany old new
    pub fillings : KeepsFillings T old new
