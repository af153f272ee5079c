-- The laws of the steps: at a moment at which the rule holds, each kind of step finds a word at which it may be made, its act is allowed,
-- and the rule holds of the moment after it.
use Rattle.std.specs.Prelude.{◌≡◌, ◌≢◌, ◌==◌, ℕ, ◌+◌, ◌-◌, ◌/◌, ◌%◌, ◌^◌, ◌<◌, ◌≤◌, Bool, true, false, List, [], ◌∷◌, ◌++◌, Option, Some, None, if◌then◌else◌}
use Rattle.keybits.specs.declared.shape.Shape.{Shape}
use Rattle.keybits.specs.declared.step.Kind.{Kind}
use Rattle.keybits.specs.declared.step.Kind.TheVariants as kinds
use Rattle.keybits.specs.declared.step.Word.{Word}
use Rattle.keybits.specs.declared.step.Word.TheVariants.{Life, Link, Stack}
use Rattle.keybits.specs.Places.{shard_of}
use Rattle.keybits.specs.Shapes.{is_place, callers}
use Rattle.keybits.specs.Rows.{row_places}
use Rattle.keybits.specs.Keys.{key_number, place_of, is_key}
use Rattle.keybits.specs.Counts.{times}
use Rattle.keybits.specs.Words.{word_with, state_in, count_in, generation_in, claimable}
use Rattle.keybits.specs.Links.{link_to, Leads}
use Rattle.keybits.specs.Steps.{Changes}
use Rattle.seqpool.specs.declared.act.Act.{Act}
use Rattle.seqpool.specs.declared.act.Act.TheVariants as acts
use Rattle.seqpool.specs.Pool.{with, references, is_current, lane_of, Allowed, pool_after}
use Rattle.steplaws.specs.declared.pending.Pending.{Pending}
use Rattle.steplaws.specs.declared.pending.Pending.TheVariants.{Nothing, Undo, Owes, Returns}
use Rattle.steplaws.specs.Calls.{is_hit, owes_claim}
use Rattle.steplaws.specs.Facts.{Lanes, Moment, moment, value_of, with_value, with_bits, with_under, with_chain, with_pushed, most_of, home_in, returner, Rule}

-- ---- what each law says of its step

-- the history, and behind it the act of a step, if it made one
abbrev pub with_act : List Act → Option Act → List Act
with_act history None = history
with_act history (Some act) = history ++ act ∷ []

-- the moment after a step that left this value in the word and made this act or none, where the lanes are then these
abbrev pub moment_after : Moment → Word → ℕ → Option Act → Lanes → Moment
moment_after m word value act lanes = moment (with_value m.words word value) (with_act m.history act) lanes

-- the act, if there is one, is by a lane of the shape, and allowed after the history
abbrev pub IsAllowed : Shape → List Act → Option Act → Type 0
IsAllowed z history None = Unit {0}
IsAllowed z history (Some act) = (lane_of act < callers z) × Allowed z (pool_after z history) act

-- a count that the kind of step raises stays in its field
abbrev pub CountFits : Kind → ℕ → Type 0
CountFits kinds.Enter word = count_in word < 1073741823
CountFits (kinds.Publish with_ref) word = count_in word < 1073741823
CountFits kind word = Unit {0}

-- a step of this kind that leaves this value in the word and makes this act or none, after which the lanes are these
pub record Keeps (z : Shape) (m : Moment) (kind : Kind) (word : Word) (value : ℕ) (act : Option Act) (lanes : Lanes) : Type 0 where
  -- it meets the step relation, and no count leaves its field
  pub changes : Changes z.last_generation kind (value_of m.words word) value
  pub room : CountFits kind (value_of m.words word)
  -- its act is allowed
  pub allowed : IsAllowed z m.history act
  -- the rule holds of the moment after it
  pub rule : Rule z (moment_after m word value act lanes)

-- a caller of the shape has this under way
abbrev pub HasUnderWay : Shape → Moment → ℕ → Pending → Type 0
HasUnderWay z m lane pending = (lane < callers z) × (m.lanes.under lane ≡ pending)

-- ---- ENTER

-- ENTER of a get that hits: the reply is a content, and the lane has one reference more
abbrev pub GetHitsLaw : Type 0
GetHitsLaw = (z : Shape) (m : Moment) (lane key : ℕ) → Rule z m → HasUnderWay z m lane Nothing → is_key z key ≡ true
    → references z (pool_after z m.history) lane key < most_of z lane
    → let word = m.words.life (place_of key) in is_hit key word ≡ true
    → (content : List ℕ) × Keeps z m kinds.Enter (Life (place_of key)) (word + 4) (Some (acts.Get lane key (Some content)))
    (with_under m.lanes lane Nothing)

-- ENTER of a get that misses: the reply is none, and the ENTER is to be undone
abbrev pub GetMissesLaw : Type 0
GetMissesLaw = (z : Shape) (m : Moment) (lane key : ℕ) → Rule z m → HasUnderWay z m lane Nothing → is_key z key ≡ true
    → let word = m.words.life (place_of key) in is_hit key word ≡ false
    → Keeps z m kinds.Enter (Life (place_of key)) (word + 4) (Some (acts.Get lane key None)) (with_under m.lanes lane (Undo key false))

-- ENTER of a clear that hits: no act yet, and the ENTER is to be undone; until then the key stays in the map
abbrev pub ClearHitsLaw : Type 0
ClearHitsLaw = (z : Shape) (m : Moment) (lane key : ℕ) → Rule z m → HasUnderWay z m lane Nothing → is_key z key ≡ true
    → let word = m.words.life (place_of key) in is_hit key word ≡ true
    → Keeps z m kinds.Enter (Life (place_of key)) (word + 4) None (with_under m.lanes lane (Undo key true))

-- ENTER of a clear that misses: the reply is false, and the ENTER is to be undone
abbrev pub ClearMissesLaw : Type 0
ClearMissesLaw = (z : Shape) (m : Moment) (lane key : ℕ) → Rule z m → HasUnderWay z m lane Nothing → is_key z key ≡ true
    → let word = m.words.life (place_of key) in is_hit key word ≡ false
    → Keeps z m kinds.Enter (Life (place_of key)) (word + 4) (Some (acts.Clear lane key false)) (with_under m.lanes lane (Undo key false))

-- ---- LEAVE

-- what a lane has under way after a LEAVE that found this word: at (g, MARKED, 1) the claim of g
abbrev pub owed_after : ℕ → ℕ → Pending
owed_after place word = if owes_claim word then Owes place (generation_in word) else Nothing

-- LEAVE of a release: the lane has one reference less
abbrev pub ReleaseLaw : Type 0
ReleaseLaw = (z : Shape) (m : Moment) (lane key : ℕ) → Rule z m → HasUnderWay z m lane Nothing
    → 0 < references z (pool_after z m.history) lane key
    → let word = m.words.life (place_of key) in
    Keeps z m kinds.Leave (Life (place_of key)) (word - 4) (Some (acts.Release lane key))
    (with_under m.lanes lane (owed_after (place_of key) word))

-- LEAVE that undoes an ENTER: no act
abbrev pub UndoLaw : Type 0
UndoLaw = (z : Shape) (m : Moment) (lane key : ℕ) (hit : Bool) → Rule z m → HasUnderWay z m lane (Undo key hit)
    → is_place z (place_of key) ≡ true
    → let word = m.words.life (place_of key) in
    Keeps z m kinds.Leave (Life (place_of key)) (word - 4) None (with_under m.lanes lane (owed_after (place_of key) word))

-- ---- PUBLISH

-- the key is one that the lane may publish: its place is with the lane, at this generation, and is not on its taken chain
pub record IsFilling (z : Shape) (m : Moment) (lane key : ℕ) : Type 0 where
  pub current : is_current z (pool_after z m.history) key ≡ true
  pub with_lane : (pool_after z m.history (place_of key)).phase ≡ with lane
  pub unchained : times (place_of key) (m.lanes.chain lane) ≡ 0

-- PUBLISH, with a reference or without one
abbrev pub PublishLaw : Type 0
PublishLaw = (z : Shape) (m : Moment) (lane key : ℕ) (content : List ℕ) (with_ref : Bool) → Rule z m → HasUnderWay z m lane Nothing
    → IsFilling z m lane key
    → let word = m.words.life (place_of key) in
    Keeps z m (kinds.Publish with_ref) (Life (place_of key)) (if with_ref then word + 5
    else word + 1) (Some (acts.Publish lane key content with_ref)) (with_under m.lanes lane Nothing)

-- ---- MARK

-- MARK, after the ENTER of a clear that hit: the state is then MARKED, and the reply is whether it was PRESENT
abbrev pub MarkLaw : Type 0
MarkLaw = (z : Shape) (m : Moment) (lane key : ℕ) → Rule z m → HasUnderWay z m lane (Undo key true)
    → let word = m.words.life (place_of key) in
    Keeps z m kinds.Mark (Life (place_of key)) (word + 3 - state_in word) (Some (acts.Clear lane key (state_in word == 1)))
    (with_under m.lanes lane (Undo key true))

-- ---- CLAIM

-- a claim that succeeds makes this act
abbrev pub reclaim : Shape → ℕ → ℕ → ℕ → Act
reclaim z lane place generation = acts.Reclaim lane (key_number z.tag place generation)

-- CLAIM that succeeds below the last generation, at a place of the lane's own shard: the place is with the lane
abbrev pub ClaimOwnLaw : Type 0
ClaimOwnLaw = (z : Shape) (m : Moment) (lane place generation : ℕ) → Rule z m → HasUnderWay z m lane (Owes place generation)
    → is_place z place ≡ true
    → generation ≢ z.last_generation → shard_of place ≡ lane → m.words.life place ≡ claimable generation
    → Keeps z m (kinds.Claim generation) (Life place) (word_with 0 0 (generation + 1)) (Some (reclaim z lane place generation))
    (with_under m.lanes lane Nothing)

-- CLAIM that succeeds below the last generation, at a place of another shard: the place is to be returned
abbrev pub ClaimOtherLaw : Type 0
ClaimOtherLaw = (z : Shape) (m : Moment) (lane place generation : ℕ) → Rule z m → HasUnderWay z m lane (Owes place generation)
    → is_place z place ≡ true
    → generation ≢ z.last_generation → shard_of place ≢ lane → m.words.life place ≡ claimable generation
    → Keeps z m (kinds.Claim generation) (Life place) (word_with 0 0 (generation + 1)) (Some (reclaim z lane place generation))
    (with_under m.lanes lane (Returns place None false))

-- CLAIM that succeeds at the last generation: the place retires
abbrev pub ClaimLastLaw : Type 0
ClaimLastLaw = (z : Shape) (m : Moment) (lane place generation : ℕ) → Rule z m → HasUnderWay z m lane (Owes place generation)
    → is_place z place ≡ true
    → generation ≡ z.last_generation → m.words.life place ≡ claimable generation
    → Keeps z m (kinds.Claim generation) (Life place) (word_with 2 0 generation) (Some (reclaim z lane place generation))
    (with_under m.lanes lane Nothing)

-- CLAIM that finds another word: it changes nothing, and nothing is owed
abbrev pub ClaimFailsLaw : Type 0
ClaimFailsLaw = (z : Shape) (m : Moment) (lane place generation : ℕ) → Rule z m → HasUnderWay z m lane (Owes place generation)
    → is_place z place ≡ true
    → m.words.life place ≢ claimable generation
    → Keeps z m (kinds.Claim generation) (Life place) (m.words.life place) None (with_under m.lanes lane Nothing)

-- ---- LINK and PUSH

-- LINK of a place to return, to any top
abbrev pub LinkLaw : Type 0
LinkLaw = (z : Shape) (m : Moment) (lane place top : ℕ) (linked : Option ℕ) (failed : Bool) → Rule z m
    → HasUnderWay z m lane (Returns place linked failed)
    → Keeps z m (kinds.Link top) (Link place) top None (with_under m.lanes lane (Returns place (Some top) failed))

-- PUSH that finds the top that was linked: the place is home
abbrev pub PushSucceedsLaw : Type 0
PushSucceedsLaw = (z : Shape) (m : Moment) (lane place top : ℕ) (failed : Bool) → Rule z m → lane < z.lanes
    → HasUnderWay z m lane (Returns place (Some top) failed)
    → m.words.stack (shard_of place) lane ≡ top
    → Keeps z m (kinds.Push top (link_to place)) (Stack (shard_of place) lane) (link_to place) (Some (acts.Home lane place))
    (with_pushed m.lanes (shard_of place) lane (link_to place))

-- PUSH that finds another word than the one that the lane last pushed: it finds 0, as the stack was taken
abbrev pub PushFailsLaw : Type 0
PushFailsLaw = (z : Shape) (m : Moment) (lane place : ℕ) (failed : Bool) → Rule z m → lane < z.lanes
    → let top = m.lanes.pushed (shard_of place) lane in HasUnderWay z m lane (Returns place (Some top) failed)
    → m.words.stack (shard_of place) lane ≢ top
    → (m.words.stack (shard_of place) lane ≡ 0)
    × Keeps z m (kinds.Push top (link_to place)) (Stack (shard_of place) lane) 0 None (with_under m.lanes lane (Returns place None true))

-- PUSH after one that failed, and after a LINK to 0: it finds 0, and so succeeds
abbrev pub PushAgainLaw : Type 0
PushAgainLaw = (z : Shape) (m : Moment) (lane place : ℕ) → Rule z m → lane < z.lanes → HasUnderWay z m lane (Returns place (Some 0) true)
    → (m.words.stack (shard_of place) lane ≡ 0)
    × Keeps z m (kinds.Push 0 (link_to place)) (Stack (shard_of place) lane) (link_to place) (Some (acts.Home lane place))
    (with_pushed m.lanes (shard_of place) lane (link_to place))

-- ---- TAKE and FOLLOW

-- TAKE of a stack that is empty: no home place of the lane's shard was returned last by the lane whose stack it is
abbrev pub TakeNoneLaw : Type 0
TakeNoneLaw = (z : Shape) (m : Moment) (lane from : ℕ) → Rule z m → lane < z.lanes → from < z.lanes → from ≢ lane
    → m.words.stack lane from ≡ 0
    → Keeps z m kinds.Take (Stack lane from) 0 None m.lanes
    × ((place : ℕ) → home_in z m.history lane place ≡ true → returner m.history place ≢ from)

-- TAKE of a stack that isn't empty: the act is Collect of just the places that the links lead through, and these are then the taken chain
abbrev pub TakeChainLaw : Type 0
TakeChainLaw = (z : Shape) (m : Moment) (lane from : ℕ) → Rule z m → lane < z.lanes → from < z.lanes → from ≢ lane
    → m.words.stack lane from ≢ 0
    → (places : List ℕ) × Leads m.words.link lane (m.words.stack lane from) places × (m.words.stack lane from ≤ 65536)
    × Keeps z m kinds.Take (Stack lane from) 0 (Some (acts.Collect lane places)) (with_chain m.lanes lane places)

-- FOLLOW of the first place of the taken chain: its link word leads through the rest
abbrev pub FollowLaw : Type 0
FollowLaw = (z : Shape) (m : Moment) (lane place : ℕ) (more : List ℕ) → Rule z m → lane < z.lanes → m.lanes.chain lane ≡ place ∷ more
    → Leads m.words.link lane (m.words.link place) more × (m.words.link place ≤ 65536)
    × Keeps z m kinds.Follow (Link place) (m.words.link place) None (with_chain m.lanes lane more)

-- ---- RETURN and GATHER

-- a step that leaves this value in the word of a row and makes this act or none, after which the lanes are these
pub record KeepsBits (z : Shape) (m : Moment) (shard row value : ℕ) (act : Option Act) (lanes : Lanes) : Type 0 where
  -- its act is allowed
  pub allowed : IsAllowed z m.history act
  -- the rule holds of the moment after it
  pub rule : Rule z (moment (with_bits m.words shard row value) (with_act m.history act) lanes)

-- the row of a place, and its bit there
abbrev pub row_of : ℕ → ℕ
row_of place = place % 65536 / 64

abbrev pub bit_of : ℕ → ℕ
bit_of place = place % 64

-- RETURN by a guest of a place to return: its bit, which wasn't set, is added to the word of its row, and the place is home
abbrev pub ReturnLaw : Type 0
ReturnLaw = (z : Shape) (m : Moment) (lane place : ℕ) → Rule z m → HasUnderWay z m lane (Returns place None false) → z.lanes ≤ lane
    → let word = m.words.bits (shard_of place) (row_of place) in
    (word + 2 ^ bit_of place < 2 ^ 64)
    × KeepsBits z m (shard_of place) (row_of place) (word + 2 ^ bit_of place) (Some (acts.Home lane place))
    (with_under m.lanes lane Nothing)

-- GATHER of a row of the lane's own shard: the act is Collect of just the places whose bits are set, if there are some
abbrev pub GatherLaw : Type 0
GatherLaw = (z : Shape) (m : Moment) (lane row : ℕ) → Rule z m → lane < z.lanes
    → let word = m.words.bits lane row in
    (word < 2 ^ 64)
    × (word ≡ 0 → KeepsBits z m lane row 0 None m.lanes)
    × (word ≢ 0 → KeepsBits z m lane row 0 (Some (acts.Collect lane (row_places lane row word 64))) m.lanes)
