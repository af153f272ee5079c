-- What a guest's call shows of its key: where its act stands in the history that the guest has then seen.
use Rattle.std.specs.Prelude.{ℕ, ◌<◌, ◌≤◌, true, List, length, Some}
use Rattle.keybits.specs.declared.shape.Shape.{Shape}
use Rattle.keybits.specs.Keys.{place_of, generation_of}
use Rattle.seqpool.specs.declared.act.Act.{Act}
use Rattle.seqpool.specs.declared.act.Act.TheVariants.{Get, Clear}
use Rattle.seqpool.specs.Pool.{pool_after}
use Rattle.seqpool.specs.Histories.{At, PublishedAt, ClearedAt, MissedAt, IsPresentAt}
use Rattle.seatcalls.specs.Visitors.{GuestOf}

-- the act stands behind all that the guest had seen
pub record StandsBehind (act : Act) (old new : GuestOf) : Type 0 where
  pub position : ℕ
  pub behind : length old.book.seen ≤ position
  pub at : At new.book.seen position act

-- a get found the key: before it the key was published with the content of its reply, and not cleared
pub record Found (key : ℕ) (old new : GuestOf) : Type 0 where
  pub content : List ℕ
  pub get : StandsBehind (Get old.number key (Some content)) old new
  pub present : IsPresentAt new.book.seen get.position key content

-- a call didn't find the key: if the key was published before the call, a clear of it stands before the call
pub record Missed (key : ℕ) (old new : GuestOf) : Type 0 where
  pub position : ℕ
  pub behind : length old.book.seen ≤ position
  pub missed : MissedAt new.book.seen position key
  pub cleared : (j : ℕ) (content : List ℕ) → PublishedAt new.book.seen j key content → j < position
      → (k : ℕ) × (k < position) × ClearedAt new.book.seen k key

-- the call's clear marked the key: before that it was published, and not cleared
pub record Cleared (key : ℕ) (old new : GuestOf) : Type 0 where
  pub clear : StandsBehind (Clear old.number key true) old new
  pub content : List ℕ
  pub present : IsPresentAt new.book.seen clear.position key content

-- the key's place has gone on to a later generation: no get finds the key any more
abbrev pub HasPassed : Shape → List Act → ℕ → Type 0
HasPassed z history key = generation_of key < (pool_after z history (place_of key)).generation
