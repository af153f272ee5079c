-- What the lane of a handle did in a call: that call, by the clauses of the pool's own, and nothing more.
use Rattle.std.specs.Prelude.{◌≡◌, ◌⊎◌, ℕ, Bool, true, false, List, [], ◌∷◌, Some, None}
use Rattle.keybits.specs.Keys.{is_key, place_of}
use Rattle.seqpool.specs.declared.act.Act.{Act}
use Rattle.seqpool.specs.declared.act.Act.TheVariants as acts
use Rattle.steplaws.specs.Calls.{Call}
use Rattle.steplaws.specs.Calls.Call.{Publishing, Getting, Releasing, Clearing}
use Rattle.poolsteps.specs.Shares.{room_of}
use Rattle.shardpool.specs.Tokens.{LaneOf}
use Rattle.shardpool.specs.Lanes.{Calls, Did}
use Rattle.shardpool.specs.Seen.{PublishedSince, FoundSince, MissedSince, ClearedSince}

-- the lane made this call and nothing more, with this act alone
abbrev pub MakesOne : Call → Act → LaneOf → LaneOf → Type 0
MakesOne call act old new = Calls old.shape call old.book new.book × Did (act ∷ []) old new

-- the lane made this call and nothing more: this act, and behind it those by which a place ends that the call was the last to leave
abbrev pub Makes : Call → Act → LaneOf → LaneOf → Type 0
Makes call act old new = Calls old.shape call old.book new.book × ((rest : List Act) × Did (act ∷ rest) old new)

-- the same for a key of the pool; for a number that is none no step was made, and the lane is as before
abbrev pub MakesAtKey : ℕ → Call → Act → LaneOf → LaneOf → Type 0
MakesAtKey key call act old new = ((is_key old.shape key ≡ false) × (new ≡ old)) ⊎ ((is_key old.shape key ≡ true) × Makes call act old new)

-- the lane published this content under the key, with a reference or without one; its place keeps so much memory
abbrev pub LanePublishes : ℕ → List ℕ → Bool → ℕ → LaneOf → LaneOf → Type 0
LanePublishes key content with_ref room old new = MakesOne (Publishing key content with_ref)
    (acts.Publish old.number key content with_ref) old new
    × PublishedSince key content with_ref old new × (room_of new.book.seen new.book.rooms (place_of key) ≡ room)

-- a get found the key
abbrev pub LaneGets : ℕ → LaneOf → LaneOf → Type 0
LaneGets key old new = ((content : List ℕ) × MakesOne (Getting key) (acts.Get old.number key (Some content)) old new)
    × FoundSince key old new

-- a get didn't find it
abbrev pub LaneMisses : ℕ → LaneOf → LaneOf → Type 0
LaneMisses key old new = MakesAtKey key (Getting key) (acts.Get old.number key None) old new × MissedSince key old new

-- the lane gave a reference to the key back
abbrev pub LaneReleases : ℕ → LaneOf → LaneOf → Type 0
LaneReleases key old new = Makes (Releasing key) (acts.Release old.number key) old new

-- the lane marked the key
abbrev pub LaneClears : ℕ → LaneOf → LaneOf → Type 0
LaneClears key old new = Makes (Clearing key) (acts.Clear old.number key true) old new × ClearedSince key old new

-- a clear didn't find it
abbrev pub LaneClearsNone : ℕ → LaneOf → LaneOf → Type 0
LaneClearsNone key old new = MakesAtKey key (Clearing key) (acts.Clear old.number key false) old new × MissedSince key old new
