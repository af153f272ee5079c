-- What a call does by a lane that is had for that call alone.
use Rattle.std.specs.Prelude.{◌≡◌, ℕ, ◌≤◌, length}
use mathlib.Core.List.{IsPrefix}
use Rattle.keybits.specs.Keys.{place_of}
use Rattle.keybits.specs.Places.{shard_of}
use Rattle.steplaws.specs.Facts.{most_references}
use Rattle.shardpool.specs.Tokens.{PoolOf, LaneOf, NoteOf}
use Rattle.shardpool.specs.Lanes.{Owns, Issued, refs}
use Rattle.lanestore.specs.declared.kept.TheConstants.{MOST_FILLINGS}
use Rattle.lanestore.specs.declared.refusal.Refusal.{Refusal}
use Rattle.lanestore.specs.declared.refusal.Refusal.TheVariants.{Busy, References, Fillings, NoFilling}
use Rattle.lanestore.specs.Fillings.{HaveNot}
use Rattle.lanestore.specs.Visits.{KeeperOf}

-- a lane of the pool, which had seen all that the caller was told, made this call; the caller's new note has all that the lane has then seen. The call
-- speaks of what a place has, of which this is the lane
pub record By {S : Type 0} (lane : S → LaneOf) (pool : PoolOf) (told note : NoteOf) (call : S → S → Type 0) : Type 0 where
  pub before : S
  pub after : S
  pub owns : Owns pool (lane before)
  pub heard : IsPrefix told.book.seen (lane before).book.seen
  pub calls : call before after
  pub issued : Issued pool note
  pub tells : note.book.seen ≡ (lane after).book.seen

-- a call of the lane alone
abbrev pub ByLane : PoolOf → NoteOf → NoteOf → (LaneOf → LaneOf → Type 0) → Type 0
ByLane pool told note call = By (λ lane. lane) pool told note call

-- the same, by the lane of this number
abbrev pub ByLaneAt : ℕ → PoolOf → NoteOf → NoteOf → (LaneOf → LaneOf → Type 0) → Type 0
ByLaneAt number pool told note call = ByLane pool told note (λ before after. (before.number ≡ number) × call before after)

-- a call of a lane with the fillings that it keeps
abbrev pub ByAny : (T : Type 0) → PoolOf → NoteOf → NoteOf → (KeeperOf T → KeeperOf T → Type 0) → Type 0
ByAny T pool told note call = By {S = KeeperOf T} (λ keeper. keeper.lane) pool told note call

-- the same, by the lane that has the places of the key's shard
abbrev pub ByKeeper : (T : Type 0) → ℕ → PoolOf → NoteOf → NoteOf → (KeeperOf T → KeeperOf T → Type 0) → Type 0
ByKeeper T key pool told note call = ByAny T pool told note (λ before after. (before.lane.number ≡ shard_of (place_of key))
    × call before after)

-- no call was made, for this reason: all lanes that could serve it were had, and the note is as before; or this holds of the lane that would have served
-- it, and the note has what the caller was told, and what that lane has seen
abbrev pub Refuses : (T : Type 0) → PoolOf → NoteOf → (Refusal → KeeperOf T → Type 0) → Refusal → NoteOf → Type 0
Refuses T pool told why Busy note = note ≡ told
Refuses T pool told why References note = ByAny T pool told note (λ before after. (after ≡ before) × why References before)
Refuses T pool told why Fillings note = ByAny T pool told note (λ before after. (after ≡ before) × why Fillings before)
Refuses T pool told why NoFilling note = ByAny T pool told note (λ before after. (after ≡ before) × why NoFilling before)

-- the lane has as many references as it can
abbrev pub HasMost : (T : Type 0) → Refusal → KeeperOf T → Type 0
HasMost T refusal keeper = (refusal ≡ References) × (most_references ≤ refs keeper.lane)

-- it keeps as many fillings as it can
abbrev pub KeepsMost : (T : Type 0) → Refusal → KeeperOf T → Type 0
KeepsMost T refusal keeper = (refusal ≡ Fillings) × (MOST_FILLINGS ≤ length keeper.kept)

-- it keeps no filling under this key, which is of its shard
abbrev pub KeepsNone : (T : Type 0) → ℕ → Refusal → KeeperOf T → Type 0
KeepsNone T key refusal keeper = (refusal ≡ NoFilling) × (keeper.lane.number ≡ shard_of (place_of key)) × HaveNot key keeper.kept

-- the key's shard is none of the pool's, so that no lane keeps its filling; the note is as before
abbrev pub IsOfNone : PoolOf → ℕ → NoteOf → Refusal → NoteOf → Type 0
IsOfNone pool key told refusal note = (refusal ≡ NoFilling) × (pool.shape.lanes ≤ shard_of (place_of key)) × (note ≡ told)
