-- Histories by their positions, counted from 0.
use Rattle.std.specs.Prelude.{◌≡◌, ◌⊎◌, ◌==◌, ℕ, ◌<◌, Bool, true, false, List, [], ◌∷◌, Some, None, slice_get, if◌then◌else◌}
use Rattle.seqpool.specs.declared.act.Act.{Act}
use Rattle.seqpool.specs.declared.act.Act.TheVariants.{Publish, Get, Release, Clear, Reclaim, Home, Collect}
use Rattle.seqpool.specs.Pool.{lane_of}

-- the act stands at this position
abbrev pub At : List Act → ℕ → Act → Type 0
At history position act = slice_get history position ≡ Some act

-- the key is published with this content at the position
abbrev pub PublishedAt : List Act → ℕ → ℕ → List ℕ → Type 0
PublishedAt history position key content = (lane : ℕ) × (with_ref : Bool) × At history position (Publish lane key content with_ref)

-- a Clear of the key with reply true stands at the position
abbrev pub ClearedAt : List Act → ℕ → ℕ → Type 0
ClearedAt history position key = (lane : ℕ) × At history position (Clear lane key true)

-- before the position the key was published with this content, and it wasn't cleared
abbrev pub IsPresentAt : List Act → ℕ → ℕ → List ℕ → Type 0
IsPresentAt history position key content =
    ((j : ℕ) × (j < position) × PublishedAt history j key content) × ((j : ℕ) → j < position → ClearedAt history j key → ⊥)

-- a Get of the key without a content stands at the position, or a Clear of it with reply false
abbrev pub MissedAt : List Act → ℕ → ℕ → Type 0
MissedAt history position key = (lane : ℕ) × (At history position (Get lane key None) ⊎ At history position (Clear lane key false))

-- a Reclaim of the key stands at the position
abbrev pub ReclaimedAt : List Act → ℕ → ℕ → Type 0
ReclaimedAt history position key = (lane : ℕ) × At history position (Reclaim lane key)

-- the acts of a lane, in order
abbrev pub acts_of : ℕ → List Act → List Act
acts_of lane [] = []
acts_of lane (act ∷ more) = if lane_of act == lane then act ∷ acts_of lane more else acts_of lane more

-- how many references to the key the lane made by this act
abbrev pub made_by : ℕ → ℕ → Act → ℕ
made_by lane key (Publish l k content true) = if l == lane then (if k == key then 1 else 0) else 0
made_by lane key (Publish l k content false) = 0
made_by lane key (Get l k (Some content)) = if l == lane then (if k == key then 1 else 0) else 0
made_by lane key (Get l k None) = 0
made_by lane key (Release l k) = 0
made_by lane key (Clear l k reply) = 0
made_by lane key (Reclaim l k) = 0
made_by lane key (Home l place) = 0
made_by lane key (Collect l places) = 0

-- how many references to the key the lane gave back by this act
abbrev pub released_by : ℕ → ℕ → Act → ℕ
released_by lane key (Publish l k content with_ref) = 0
released_by lane key (Get l k reply) = 0
released_by lane key (Release l k) = if l == lane then (if k == key then 1 else 0) else 0
released_by lane key (Clear l k reply) = 0
released_by lane key (Reclaim l k) = 0
released_by lane key (Home l place) = 0
released_by lane key (Collect l places) = 0
