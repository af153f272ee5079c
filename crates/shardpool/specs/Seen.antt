-- Where the act of a call stands in the history that its lane has then seen.
use Rattle.std.specs.Prelude.{◌≡◌, ◌≢◌, ◌⊎◌, ℕ, ◌<◌, ◌≤◌, Bool, true, false, List, ◌++◌, length, Some}
use Rattle.keybits.specs.Keys.{place_of, is_key}
use Rattle.seqpool.specs.declared.act.Act.{Act}
use Rattle.seqpool.specs.declared.act.Act.TheVariants.{Publish, Get, Clear}
use Rattle.seqpool.specs.Histories.{At, PublishedAt, ClearedAt, MissedAt, IsPresentAt}
use Rattle.poolsteps.specs.Shares.{room_of}
use Rattle.shardpool.specs.Tokens.{LaneOf}

-- the act stands behind all that the lane had seen
pub record StandsSince (act : Act) (old new : LaneOf) : Type 0 where
  pub position : ℕ
  pub behind : length old.book.seen ≤ position
  pub at : At new.book.seen position act

-- the call's publish stands behind all that the lane had seen, with a reference or without one: the key is published with this content
pub record PublishedSince (key : ℕ) (content : List ℕ) (with_ref : Bool) (old new : LaneOf) : Type 0 where
  pub publish : StandsSince (Publish old.number key content with_ref) old new
  pub published : PublishedAt new.book.seen publish.position key content

-- a get found the key: before it the key was published with the content of its reply, and not cleared
pub record FoundSince (key : ℕ) (old new : LaneOf) : Type 0 where
  pub content : List ℕ
  pub get : StandsSince (Get old.number key (Some content)) old new
  pub present : IsPresentAt new.book.seen get.position key content

-- a call didn't find the key, or the number is none: if the key was published before the call, a clear of it stands before the call
pub record MissedSince (key : ℕ) (old new : LaneOf) : Type 0 where
  pub position : ℕ
  pub behind : length old.book.seen ≤ position
  pub missed : MissedAt new.book.seen position key ⊎ (is_key new.shape key ≡ false)
  pub cleared : (j : ℕ) (content : List ℕ) → PublishedAt new.book.seen j key content → j < position
      → (k : ℕ) × (k < position) × ClearedAt new.book.seen k key

-- the call's clear stands behind all that the lane had seen, and marked the key: before that it was published, and not cleared
pub record ClearedSince (key : ℕ) (old new : LaneOf) : Type 0 where
  pub clear : StandsSince (Clear old.number key true) old new
  pub cleared : ClearedAt new.book.seen clear.position key
  pub content : List ℕ
  pub present : IsPresentAt new.book.seen clear.position key content

-- ---- rooms

-- the room of a place stays while no key of the place is published
abbrev pub RoomLaw : Type 0
RoomLaw = (history more : List Act) (rooms kept : List ℕ) (place : ℕ) → length rooms ≡ length history → length kept ≡ length more
    → ((i key : ℕ) (content : List ℕ) → PublishedAt more i key content → place_of key ≢ place)
    → room_of (history ++ more) (rooms ++ kept) place ≡ room_of history rooms place
