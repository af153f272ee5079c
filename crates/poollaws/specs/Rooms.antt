-- What a lane knows of the rooms of places, by what it has seen.
use Rattle.std.specs.Prelude.{◌≡◌, ℕ, ◌≤◌, List, ◌++◌, length}
use Rattle.keybits.specs.Keys.{place_of}
use Rattle.seqpool.specs.declared.act.Act.{Act}
use Rattle.poolsteps.specs.Shares.{room_of}
use Rattle.poolsteps.specs.declared.view.View.{View}
use Rattle.shardpool.specs.Tokens.{LaneOf}
use Rattle.poollaws.specs.Words.{IsPublished}

-- by this view of a lane or of a note the key was seen published, and by then its place had at least this room
pub record SawRoom (book : View) (key size : ℕ) : Type 0 where
  pub front : List Act
  pub more : List Act
  pub seen : book.seen ≡ front ++ more
  pub rooms : List ℕ
  pub kept : List ℕ
  pub rooms_are : book.rooms ≡ rooms ++ kept
  pub beside : length rooms ≡ length front
  pub paired : length kept ≡ length more
  pub content : List ℕ
  pub published : IsPublished front key content
  pub roomy : size ≤ room_of front rooms (place_of key)

-- the lane has seen the key published, and by then its place had at least this room
abbrev pub KnowsRoom : LaneOf → ℕ → ℕ → Type 0
KnowsRoom lane key size = SawRoom lane.book key size
