-- What calls do by a lane that is had for a while.
use Rattle.std.specs.Prelude.{◌≡◌, ℕ, List, [], Bool, true, false, Option, Some, None, Result, Ok, Err, IfSome, option_map}
use mathlib.Core.List.{IsPrefix}
use Rattle.poolsteps.specs.Seats.{looked_once}
use Rattle.slotcell.specs.declared.objects.Clear.{Ghosts}
use Rattle.shardpool.specs.declared.create.CreateFault.{CreateFault}
use Rattle.shardpool.specs.Tokens.{PoolOf, LaneOf, FillingOf, NoteOf}
use Rattle.shardpool.specs.Lanes.{Owns, Issued, Made, Did, refs}
use Rattle.shardpool.specs.AfterCalls.{HoldsAsMany, AfterGet, AfterCreate, AfterPublish, AfterDowngrade}
use Rattle.lanestore.specs.declared.kept.Kept.{Kept}
use Rattle.lanestore.specs.declared.lent.Lent.{Lent}
use Rattle.lanestore.specs.declared.visit.Visit.{Visit}
use Rattle.lanestore.specs.Fillings.{HaveNot, Gain, Lose}

-- the lane
abbrev pub lane_of : {T : Type 0} {G : Ghosts T} → Visit T G → LaneOf
lane_of visit = visit.keeper.value.lane

-- the fillings that it keeps
abbrev pub kept_of : {T : Type 0} {G : Ghosts T} → Visit T G → List (Kept T)
kept_of visit = visit.keeper.value.fillings.list.items

-- what lies in a place: a lane, and the fillings that it keeps
pub record KeeperOf (T : Type 0) : Type 0 where
  pub lane : LaneOf
  pub kept : List (Kept T)

abbrev pub keeper_of : {T : Type 0} {G : Ghosts T} → Visit T G → KeeperOf T
keeper_of visit = record { lane = lane_of visit; kept = kept_of visit }

-- a lane of the pool that has no reference
abbrev pub IsNew : PoolOf → LaneOf → Type 0
IsNew pool lane = Owns pool lane × (refs lane ≡ 0)

-- the lane took in the note: what it has then seen begins with what the note has, and it did nothing else
pub record Hears (pool : PoolOf) (note : NoteOf) (old new : LaneOf) : Type 0 where
  pub owns : Owns pool new
  pub heard : IsPrefix note.book.seen new.book.seen
  pub rooms : IsPrefix note.book.rooms new.book.rooms
  pub seen : IsPrefix old.book.seen new.book.seen
  pub goes : Did [] old new
  pub refs : refs new ≡ refs old
  pub held : HoldsAsMany old new

-- the note has all that the lane has seen; it made a look, and is as before
pub record Tells (pool : PoolOf) (old new : LaneOf) (note : NoteOf) : Type 0 where
  pub issued : Issued pool note
  pub seen : note.book.seen ≡ old.book.seen
  pub rooms : note.book.rooms ≡ old.book.rooms
  pub lane : new ≡ record old { book = looked_once old.book }
  pub owns : Owns pool new

-- a get by the lane, which keeps the reference for its caller
pub record Lends (T : Type 0) (pool : PoolOf) (key : ℕ) (old new : LaneOf) (result : Option Lent) : Type 0 where
  pub gets : AfterGet T pool key old new (option_map (λ lent. record { key = lent.key }) result)
  pub lent : IfSome result (λ lent. (lent.key ≡ key) × (lent.lane ≡ old.number))

module _ {T : Type 0} (content : T → List ℕ) (room : T → ℕ) (pool : PoolOf) where
  -- a create: the lane keeps the filling, under this key; or no place was had, and it keeps what it kept
  abbrev pub Creates : KeeperOf T → KeeperOf T → Result ℕ CreateFault → Type 0
  Creates old new (Ok key) = (filling : FillingOf T) × (filling.key ≡ key)
      × AfterCreate content room pool old.lane new.lane (Ok filling) × Gain filling old.kept new.kept
  Creates old new (Err fault) = AfterCreate content room pool old.lane new.lane (Err fault) × (new.kept ≡ old.kept)

  -- a publish of the filling that the lane kept under the key; or it kept none, and all is as before
  abbrev pub Publishes : ℕ → KeeperOf T → KeeperOf T → Bool → Type 0
  Publishes key old new true = (filling : FillingOf T) × Made old.lane filling × Lose filling old.kept new.kept
      × AfterPublish content room pool filling old.lane new.lane key
  Publishes key old new false = HaveNot key old.kept × (new ≡ old)

  -- the same with a reference, which the lane keeps for its caller
  abbrev pub Downgrades : ℕ → KeeperOf T → KeeperOf T → Option Lent → Type 0
  Downgrades key old new (Some lent) = (filling : FillingOf T) × Made old.lane filling × Lose filling old.kept new.kept
      × AfterDowngrade content room pool filling old.lane new.lane (record { key = key })
      × (lent.key ≡ key) × (lent.lane ≡ old.lane.number)
  Downgrades key old new None = HaveNot key old.kept × (new ≡ old)

  -- a create and a publish of the object, for which that of the place came back; or no place was had, and it stays
  abbrev pub Puts : T → T → LaneOf → LaneOf → Result ℕ CreateFault → Type 0
  Puts object back old new (Ok key) = (middle : LaneOf) × (filling : FillingOf T)
      × AfterCreate content room pool old middle (Ok filling)
      × AfterPublish content room pool (record filling { object = object }) middle new key × (back ≡ filling.object)
  Puts object back old new (Err fault) = AfterCreate content room pool old new (Err fault) × (back ≡ object)
