-- The four laws of legal histories, in words of positions, keys and lanes: what each says of one history, and that it holds of every legal one.
use Rattle.std.specs.Prelude.{◌≡◌, ◌≢◌, ◌↔◌, ◌⊎◌, ℕ, ◌+◌, ◌<◌, ◌≤◌, Bool, true, List, length, Option, Some, take, sum_by}
use mathlib.Core.List.{IsPrefix}
use Rattle.keybits.specs.declared.shape.Shape.{Shape}
use Rattle.keybits.specs.Keys.{place_of, generation_of}
use Rattle.seqpool.specs.declared.act.Act.{Act}
use Rattle.seqpool.specs.declared.act.Act.TheVariants.{Get, Clear}
use Rattle.seqpool.specs.Pool.{with, lane_of, references, pool_after, IsLegal}
use Rattle.seqpool.specs.Histories.{At, PublishedAt, ClearedAt, IsPresentAt, MissedAt, ReclaimedAt, made_by, released_by}

-- a Get of a key replies a content exactly where the Publish of the key with that content stands before it, and no Clear of the key with reply true does
abbrev pub GetLawOf : List Act → Type 0
GetLawOf history = (i lane key : ℕ) (reply : Option (List ℕ)) (content : List ℕ) → At history i (Get lane key reply)
    → ((reply ≡ Some content) ↔ IsPresentAt history i key content)

-- a Clear of a key replies true exactly where a Publish of the key stands before it, and no Clear of the key with reply true does
abbrev pub ClearLawOf : List Act → Type 0
ClearLawOf history = (i lane key : ℕ) (reply : Bool) → At history i (Clear lane key reply)
    → ((reply ≡ true) ↔ ((content : List ℕ) × IsPresentAt history i key content))

-- where a call didn't find a key that was published before, a Clear of the key stands before the call
abbrev pub MissLawOf : List Act → Type 0
MissLawOf history = (i j key : ℕ) (content : List ℕ) → MissedAt history i key → PublishedAt history j key content → j < i
    → (k : ℕ) × (k < i) × ClearedAt history k key

-- where a Reclaim of a key stands, no lane has a reference to it: each has given back all that it had
abbrev pub ReclaimLawOf : Shape → List Act → Type 0
ReclaimLawOf z history = (i key lane : ℕ) → ReclaimedAt history i key
    → (references z (pool_after z (take i history)) lane key ≡ 0)
    × (sum_by (made_by lane key) (take i history) ≡ sum_by (released_by lane key) (take i history))

-- between the Publish and the Reclaim of a key, no key of its place is published
abbrev pub AloneLawOf : List Act → Type 0
AloneLawOf history = (i j m key other : ℕ) (content more : List ℕ) → PublishedAt history i key content → ReclaimedAt history j key
    → i < m → m < j → PublishedAt history m other more → place_of other ≢ place_of key

-- no key is published twice
abbrev pub OnceLawOf : List Act → Type 0
OnceLawOf history = (i j key : ℕ) (content more : List ℕ) → PublishedAt history i key content → PublishedAt history j key more → i ≡ j

-- a key has one content, wherever its Publish stands
abbrev pub ContentLawOf : List Act → Type 0
ContentLawOf history = (i j key : ℕ) (content more : List ℕ) → PublishedAt history i key content → PublishedAt history j key more
    → content ≡ more

-- no key of a place is published after the Reclaim of its last generation
abbrev pub RetiredLawOf : Shape → List Act → Type 0
RetiredLawOf z history = (i j key other : ℕ) (content : List ℕ) → ReclaimedAt history i key → generation_of key ≡ z.last_generation
    → i < j → PublishedAt history j other content → place_of other ≢ place_of key

-- an act of another lane changes neither which places are with a lane, nor its references
abbrev pub OwnLawOf : Shape → List Act → Type 0
OwnLawOf z history = (i lane : ℕ) (act : Act) → At history i act → lane_of act ≢ lane
    → ((place : ℕ) → (((pool_after z (take i history) place).phase ≡ with lane)
    ↔ ((pool_after z (take (i + 1) history) place).phase ≡ with lane)))
    × ((key : ℕ) → references z (pool_after z (take (i + 1) history)) lane key ≡ references z (pool_after z (take i history)) lane key)

-- the Get law: of every legal history
abbrev pub GetLaw : Type 0
GetLaw = (z : Shape) (history : List Act) → IsLegal z history → GetLawOf history

-- the Clear law: of every legal history
abbrev pub ClearLaw : Type 0
ClearLaw = (z : Shape) (history : List Act) → IsLegal z history → ClearLawOf history

-- the Miss law: of every legal history
abbrev pub MissLaw : Type 0
MissLaw = (z : Shape) (history : List Act) → IsLegal z history → MissLawOf history

-- in a history that goes on a Publish stands where it stood, and a Clear stands where it stood or behind the beginning
abbrev pub LaterLaw : Type 0
LaterLaw = (beginning history : List Act) → IsPrefix beginning history
    → ((i key : ℕ) (content : List ℕ) → PublishedAt beginning i key content → PublishedAt history i key content)
    × ((i key : ℕ) → ClearedAt history i key → ClearedAt beginning i key ⊎ (length beginning ≤ i))

-- the first half of the Reclaim law: of every legal history
abbrev pub ReclaimLaw : Type 0
ReclaimLaw = (z : Shape) (history : List Act) → IsLegal z history → ReclaimLawOf z history

-- the second half of the Reclaim law: of every legal history
abbrev pub AloneLaw : Type 0
AloneLaw = (z : Shape) (history : List Act) → IsLegal z history → AloneLawOf history

-- the first half of the Once law: of every legal history
abbrev pub OnceLaw : Type 0
OnceLaw = (z : Shape) (history : List Act) → IsLegal z history → OnceLawOf history

-- what the Once law says of contents: of every legal history
abbrev pub ContentLaw : Type 0
ContentLaw = (z : Shape) (history : List Act) → IsLegal z history → ContentLawOf history

-- the second half of the Once law: of every legal history
abbrev pub RetiredLaw : Type 0
RetiredLaw = (z : Shape) (history : List Act) → IsLegal z history → RetiredLawOf z history

-- the Own law: of every legal history
abbrev pub OwnLaw : Type 0
OwnLaw = (z : Shape) (history : List Act) → IsLegal z history → OwnLawOf z history
