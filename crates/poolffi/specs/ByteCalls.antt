-- What calls do by a lane that is had for the one call, and what each answers.
use Rattle.std.specs.Prelude.{◌≡◌, ◌⊎◌, ℕ, ◌<◌, ◌≤◌, true, false, List, length, Some, None, Result, Ok, Err, Bool}
use Rattle.seqpool.specs.Histories.{PublishedAt}
use Rattle.steplaws.specs.Facts.{most_references}
use Rattle.slotcell.specs.ByteBuf.{ByteBuf}
use Rattle.shardpool.specs.declared.create.CreateFault.{CreateFault}
use Rattle.shardpool.specs.declared.create.CreateFault.TheVariants as faults
use Rattle.shardpool.specs.Tokens.{PoolOf, LaneOf, FillingOf}
use Rattle.shardpool.specs.Lanes.{refs}
use Rattle.shardpool.specs.AfterCalls.{AfterCreate, AfterPublish, AfterGet, AfterReleaseKey, AfterClear}
use Rattle.poolffi.specs.declared.refusal.Refusal.{Refusal}
use Rattle.poolffi.specs.declared.refusal.Refusal.TheVariants.{Memory, Full, NoReference, Gone, References}
use Rattle.poolffi.specs.declared.found.Found.{Found}

module _ (pool : PoolOf) where
  -- a place was had, as a filling; or none was, for this reason
  abbrev pub Creates : LaneOf → LaneOf → Result (FillingOf ByteBuf) CreateFault → Type 0
  Creates old new result = AfterCreate (λ b. b.bytes) (λ b. b.room) pool old new result

  -- the filling was published under this key, without a reference
  abbrev pub Publishes : FillingOf ByteBuf → LaneOf → LaneOf → ℕ → Type 0
  Publishes filling old new key = AfterPublish (λ b. b.bytes) (λ b. b.room) pool filling old new key

  -- a filling was published as it is and cleared, so that its place can be had again: its key is found no more
  abbrev pub GivesUp : FillingOf ByteBuf → LaneOf → LaneOf → Type 0
  GivesUp filling old new = (middle : LaneOf) × (key : ℕ) × (cleared : Bool) × Publishes filling old middle key
      × AfterClear ByteBuf pool key middle new cleared

  -- a create and a publish of an object with these bytes, in no less memory than the place had; or no place was had; or memory was refused for the bytes,
  -- of which there was need, and the place was given up
  abbrev pub Puts : List ℕ → LaneOf → LaneOf → Result ℕ Refusal → Type 0
  Puts bytes old new (Ok key) = (middle : LaneOf) × (filling : FillingOf ByteBuf) × (object : ByteBuf)
      × Creates old middle (Ok filling) × (object.bytes ≡ bytes) × (filling.object.room ≤ object.room)
      × Publishes (record filling { object = object }) middle new key
  Puts bytes old new (Err refusal) = ((refusal ≡ Full) × Creates old new (Err faults.Full))
      ⊎ (((refusal ≡ Memory) × Creates old new (Err faults.Memory))
      ⊎ ((refusal ≡ Memory) × ((middle : LaneOf) × (filling : FillingOf ByteBuf) × Creates old middle (Ok filling)
      × (filling.object.room < length bytes) × GivesUp filling middle new)))

  -- a get: the lane keeps the reference, and so many bytes are told as the key was published with; or it wasn't found; or the lane has as many
  -- references as a lane can, and is as before
  abbrev pub Gets : ℕ → LaneOf → LaneOf → Result Found Refusal → Type 0
  Gets key old new (Ok found) = AfterGet ByteBuf pool key old new (Some (record { key = key })) × (found.lane ≡ old.number)
      × ((bytes : List ℕ) × (j : ℕ) × PublishedAt new.book.seen j key bytes × (found.len ≡ length bytes))
  Gets key old new (Err refusal) = ((refusal ≡ Gone) × AfterGet ByteBuf pool key old new None)
      ⊎ ((refusal ≡ References) × (most_references ≤ refs old) × (new ≡ old))

  -- a release: one reference less; or the lane has none to the key
  abbrev pub Releases : ℕ → LaneOf → LaneOf → Result (Unit {0}) Refusal → Type 0
  Releases key old new (Ok done) = AfterReleaseKey ByteBuf pool key old new true
  Releases key old new (Err refusal) = (refusal ≡ NoReference) × AfterReleaseKey ByteBuf pool key old new false

  -- a clear: this call marked the key; or it wasn't found
  abbrev pub Clears : ℕ → LaneOf → LaneOf → Result (Unit {0}) Refusal → Type 0
  Clears key old new (Ok done) = AfterClear ByteBuf pool key old new true
  Clears key old new (Err refusal) = (refusal ≡ Gone) × AfterClear ByteBuf pool key old new false
