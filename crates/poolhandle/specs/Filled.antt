-- What a lane fills.
use Rattle.std.specs.Prelude.{◌≡◌, ◌≢◌, ◌==◌, ℕ, ◌+◌, ◌-◌, ◌<◌, ◌≤◌, List, [], ◌∷◌, ◌++◌, length, take, drop, slice_index_or, slice_set, sum_by, if◌then◌else◌}
use Rattle.std.specs.List.{All}
use Rattle.std.specs.List.Sorted.{IsPermutation}
use Rattle.slotcell.specs.ByteBuf.{ByteBuf}
use Rattle.shardpool.specs.Tokens.{LaneOf, FillingOf}
use Rattle.shardpool.specs.Lanes.{Made}
use Rattle.poolhandle.specs.declared.kept.Kept.{Kept}

-- the content of a filling: its bytes but those of the room that was given last
abbrev pub content_of : Kept → List ℕ
content_of kept = take (length kept.filling.object.bytes - kept.room) kept.filling.object.bytes

-- the bytes of that room
abbrev pub room_of : Kept → List ℕ
room_of kept = drop (length kept.filling.object.bytes - kept.room) kept.filling.object.bytes

-- its buffer has no room for so many bytes behind its content: who appends them takes memory
abbrev pub MustGrow : Kept → ℕ → Type 0
MustGrow kept count = kept.filling.object.room < length (content_of kept) + count

-- it is the same filling: of the same key, and with no less memory
abbrev pub SameFilling : Kept → Kept → Type 0
SameFilling old new = (new.filling.table ≡ old.filling.table) × (new.filling.key ≡ old.filling.key)
    × (new.filling.start ≡ old.filling.start)
    × (old.filling.object.room ≤ new.filling.object.room)
    × (new.filling.directory ≡ old.filling.directory)

-- the lane made each
abbrev pub AreMade : LaneOf → List Kept → Type 0
AreMade lane places = All (λ kept. Made lane kept.filling) places

-- how many have this key
abbrev pub times : ℕ → List Kept → ℕ
times key places = sum_by (λ kept. if kept.filling.key == key then 1 else 0) places

-- no two have one key
abbrev pub AreDistinct : List Kept → Type 0
AreDistinct places = (key : ℕ) → times key places ≤ 1

-- none has this key
abbrev pub HaveNot : ℕ → List Kept → Type 0
HaveNot key places = All (λ kept. kept.filling.key ≢ key) places

-- the filling that stands here is the same with other bytes, and the others are as before
abbrev pub Changes : ℕ → (Kept → Kept → Type 0) → List Kept → List Kept → Type 0
Changes index R old new = (kept : Kept) × (new ≡ slice_set old index kept) × SameFilling (slice_index_or old index kept) kept
    × R (slice_index_or old index kept) kept

-- ---- what a call does with all of them

-- nothing
abbrev pub StayAll : List Kept → List Kept → Type 0
StayAll old new = new ≡ old

-- this filling came to them, behind the others: it has no content yet, and no room
abbrev pub Gain : FillingOf ByteBuf → List Kept → List Kept → Type 0
Gain filling old new = (kept : Kept) × (kept.filling ≡ filling) × (content_of kept ≡ []) × (room_of kept ≡ []) × (new ≡ old ++ kept ∷ [])

-- the one under this key has other bytes, and the others are as before, each in its place
abbrev pub Turn : ℕ → (Kept → Kept → Type 0) → List Kept → List Kept → Type 0
Turn key R old new = (index : ℕ) × (index < length old) × Changes index (λ was now. (was.filling.key ≡ key) × R was now) old new

-- the one under this key is gone, and the others are as before; in which order is told by nothing
abbrev pub Lose : ℕ → Kept → List Kept → List Kept → Type 0
Lose key kept old new = (kept.filling.key ≡ key) × IsPermutation old (kept ∷ new) × HaveNot key new
