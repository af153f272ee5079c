-- The moment between two steps, and the rule that holds of it: Count, State, Owed claim and Home.
use Rattle.std.specs.Prelude.{◌≡◌, ◌≢◌, ◌==◌, ◌&&◌, ◌⊎◌, ℕ, ◌+◌, ◌^◌, ◌<◌, ◌≤◌, Bool, true, false, nat_lt, nat_le, List, [], ◌∷◌, Option, Some, None, if◌then◌else◌}
use Rattle.keybits.specs.declared.shape.Shape.{Shape}
use Rattle.keybits.specs.declared.step.Word.{Word}
use Rattle.keybits.specs.declared.step.Word.TheVariants.{Life, Link, Stack}
use Rattle.keybits.specs.Places.{shard_of}
use Rattle.keybits.specs.Shapes.{IsShape, is_place, callers}
use Rattle.keybits.specs.Rows.{row_word}
use Rattle.keybits.specs.Keys.{place_of}
use Rattle.keybits.specs.Counts.{sum_below, times}
use Rattle.keybits.specs.Words.{state_in, count_in, generation_in, claimable}
use Rattle.keybits.specs.Links.{Leads}
use Rattle.keybits.specs.Homes.{AreHome}
use Rattle.seqpool.specs.declared.act.Act.{Act}
use Rattle.seqpool.specs.declared.act.Act.TheVariants as acts
use Rattle.seqpool.specs.Pool.{Phase, with, published, home, retired, references_in, has_key, pool_after, IsLegal}
use Rattle.steplaws.specs.declared.pending.Pending.{Pending}
use Rattle.steplaws.specs.declared.pending.Pending.TheVariants.{Nothing, Undo, Owes, Returns}

-- f, but x at i
abbrev pub put_at : {A : Type 0} → (ℕ → A) → ℕ → A → ℕ → A
put_at f i x j = if j == i then x else f j

-- f, but x at i and k
abbrev pub put_two : (ℕ → ℕ → ℕ) → ℕ → ℕ → ℕ → ℕ → ℕ → ℕ
put_two f i k x j m = if (j == i) && (m == k) then x else f j m

-- ---- the moment

-- the values of the pool's words: the lifecycle and the link word of each place, the stack word of each shard and lane, and the word of
-- each shard's row of bits
pub record Words : Type 0 where
  pub life : ℕ → ℕ
  pub link : ℕ → ℕ
  pub stack : ℕ → ℕ → ℕ
  pub bits : ℕ → ℕ → ℕ

-- the value of a word
abbrev pub value_of : Words → Word → ℕ
value_of words (Life place) = words.life place
value_of words (Link place) = words.link place
value_of words (Stack shard lane) = words.stack shard lane

-- the words, but this value in the one
abbrev pub with_value : Words → Word → ℕ → Words
with_value words (Life place) value =
    record { life = put_at words.life place value; link = words.link; stack = words.stack; bits = words.bits }
with_value words (Link place) value =
    record { life = words.life; link = put_at words.link place value; stack = words.stack; bits = words.bits }
with_value words (Stack shard lane) value =
    record { life = words.life; link = words.link; stack = put_two words.stack shard lane value; bits = words.bits }

-- the words, but this value in the word of a row
abbrev pub with_bits : Words → ℕ → ℕ → ℕ → Words
with_bits words shard row value =
    record { life = words.life; link = words.link; stack = words.stack; bits = put_two words.bits shard row value }

-- the lanes: what each has under way; for each shard and lane, the word that the lane last pushed on its stack there;
-- and the places of each lane's taken chain that are still to be followed
pub record Lanes : Type 0 where
  pub under : ℕ → Pending
  pub pushed : ℕ → ℕ → ℕ
  pub chain : ℕ → List ℕ

-- the lanes, but the one has this under way
abbrev pub with_under : Lanes → ℕ → Pending → Lanes
with_under lanes lane pending = record { under = put_at lanes.under lane pending; pushed = lanes.pushed; chain = lanes.chain }

-- the lanes, but this is the one's taken chain
abbrev pub with_chain : Lanes → ℕ → List ℕ → Lanes
with_chain lanes lane places = record { under = lanes.under; pushed = lanes.pushed; chain = put_at lanes.chain lane places }

-- the lanes, but the one has pushed this word for the shard, and has nothing under way
abbrev pub with_pushed : Lanes → ℕ → ℕ → ℕ → Lanes
with_pushed lanes shard lane word =
    record { under = put_at lanes.under lane Nothing; pushed = put_two lanes.pushed shard lane word; chain = lanes.chain }

-- what stands between two steps: the words, the history of the acts so far, and the lanes
pub record Moment : Type 0 where
  pub words : Words
  pub history : List Act
  pub lanes : Lanes

-- the moment of these words, this history and these lanes
abbrev pub moment : Words → List Act → Lanes → Moment
moment words history lanes = record { words = words; history = history; lanes = lanes }

-- ---- Count, State, Owed claim

-- how many ENTERs to undo a lane has at a place
abbrev pub to_undo : ℕ → Pending → ℕ
to_undo place Nothing = 0
to_undo place (Undo key hit) = if place_of key == place then 1 else 0
to_undo place (Owes at generation) = 0
to_undo place (Returns at linked failed) = 0

-- Count: a word's count is the references of all callers plus the ENTERs to undo
abbrev pub Count : Shape → Words → List Act → (ℕ → Pending) → Type 0
Count z words history under = (place : ℕ) → is_place z place ≡ true
    → count_in (words.life place)
    ≡ sum_below (callers z) (λ lane. references_in (pool_after z history place).phase lane) + sum_below (callers z)
    (λ lane. to_undo place (under lane))

-- the key of a clear that hit is in the map until its ENTER is undone
abbrev pub Pinned : Shape → List Act → (ℕ → Pending) → Type 0
Pinned z history under = (lane key : ℕ) → lane < callers z → under lane ≡ Undo key true → has_key z (pool_after z history) key ≡ true

-- the state bits that stand for a phase: PRESENT for an unmarked row, MARKED for a marked one, RETIRED for a retired place, and else IDLE
abbrev pub bits_of : Phase → ℕ
bits_of (with lane) = 0
bits_of (published content references true) = 3
bits_of (published content references false) = 1
bits_of home = 0
bits_of retired = 2

-- State: a word has the state of its place's phase, and the generation of its place
abbrev pub State : Shape → Words → List Act → Type 0
State z words history = (place : ℕ) → is_place z place ≡ true
    → (state_in (words.life place) ≡ bits_of (pool_after z history place).phase)
    × (generation_in (words.life place) ≡ (pool_after z history place).generation)

-- Owed claim: where a word is marked with count 0, a lane owes its claim
abbrev pub OwedClaim : Shape → Words → (ℕ → Pending) → Type 0
OwedClaim z words under = (place generation : ℕ) → is_place z place ≡ true → words.life place ≡ claimable generation
    → (lane : ℕ) × (lane < callers z) × (under lane ≡ Owes place generation)

-- no lane has more references to a key than this
abbrev pub most_references : ℕ
most_references = 1048575

-- and of a guest no more than one
abbrev pub most_of : Shape → ℕ → ℕ
most_of z lane = if nat_lt lane z.lanes then most_references else 1

-- ---- Home

-- the place is home
abbrev pub is_home : Phase → Bool
is_home (with lane) = false
is_home (published content references mark) = false
is_home home = true
is_home retired = false

-- the place is home, and of this shard
abbrev pub home_in : Shape → List Act → ℕ → ℕ → Bool
home_in z history shard place = is_place z place && ((shard_of place == shard) && is_home (pool_after z history place).phase)

-- who last returned each place, after one act more
abbrev pub returner_after : Act → (ℕ → ℕ) → ℕ → ℕ
returner_after (acts.Publish lane key content with_ref) returners = returners
returner_after (acts.Get lane key reply) returners = returners
returner_after (acts.Release lane key) returners = returners
returner_after (acts.Clear lane key reply) returners = returners
returner_after (acts.Reclaim lane key) returners = returners
returner_after (acts.Home lane place) returners = put_at returners place lane
returner_after (acts.Collect lane places) returners = returners

-- who last returned each place, after these acts more
abbrev pub returners_after : (ℕ → ℕ) → List Act → ℕ → ℕ
returners_after returners [] = returners
returners_after returners (act ∷ more) = returners_after (returner_after act returners) more

-- the lane that returned the place last; 0 where none did
abbrev pub returner : List Act → ℕ → ℕ
returner history = returners_after (λ _. 0) history

-- the place is home, and a lane returned it; or a guest did
abbrev pub lane_home : Shape → List Act → ℕ → ℕ → Bool
lane_home z history shard place = home_in z history shard place && nat_lt (returner history place) z.lanes

abbrev pub guest_home : Shape → List Act → ℕ → ℕ → Bool
guest_home z history shard place = home_in z history shard place && nat_le z.lanes (returner history place)

-- the word is the expected top that was linked, if one was
abbrev pub IsLinked : ℕ → Option ℕ → Type 0
IsLinked word None = Unit {0}
IsLinked word (Some top) = word ≡ top

-- a place that a lane has still to return
pub record IsToReturn (z : Shape) (words : Words) (history : List Act) (lane place : ℕ) (linked : Option ℕ) (failed : Bool) : Type 0 where
  -- it is of another shard, and with the lane
  pub inside : is_place z place ≡ true
  pub apart : shard_of place ≢ lane
  pub with_lane : (pool_after z history place).phase ≡ with lane
  -- between its LINK and its PUSH its link word is the expected top that was linked
  pub link : IsLinked (words.link place) linked
  -- from a failed PUSH on the lane's stack word there is 0
  pub emptied : failed ≡ true → words.stack (shard_of place) lane ≡ 0

-- what holds of a place to return, where a lane has one under way
abbrev pub IsReturning : Shape → Words → List Act → ℕ → Pending → Type 0
IsReturning z words history lane Nothing = Unit {0}
IsReturning z words history lane (Undo key hit) = Unit {0}
IsReturning z words history lane (Owes place generation) = Unit {0}
IsReturning z words history lane (Returns place linked failed) = IsToReturn z words history lane place linked failed

-- a place of a taken chain: once in it, of the lane's shard, and with the lane
pub record IsChained (z : Shape) (history : List Act) (lane : ℕ) (places : List ℕ) (place : ℕ) : Type 0 where
  pub once : times place places ≡ 1
  pub inside : is_place z place ≡ true
  pub own : shard_of place ≡ lane
  pub with_lane : (pool_after z history place).phase ≡ with lane

-- the link words of a taken chain lead through its places still to be followed to the end
pub record IsChain (z : Shape) (words : Words) (history : List Act) (lane : ℕ) (places : List ℕ) : Type 0 where
  pub first : ℕ
  pub leads : Leads words.link lane first places
  pub each : (place : ℕ) → 0 < times place places → IsChained z history lane places place

-- Home
pub record Home (z : Shape) (words : Words) (history : List Act) (lanes : Lanes) : Type 0 where
  -- the places threaded on the stacks of a shard are its home places that lanes returned, each once
  pub stacks : (shard : ℕ) → shard < z.lanes → AreHome z shard words.link (words.stack shard) (lane_home z history shard)
  -- those on a lane's stack were returned last by that lane
  pub returned : (shard lane : ℕ) → shard < z.lanes → lane < z.lanes → lane ≢ shard
      → (thread : List ℕ) → Leads words.link shard (words.stack shard lane) thread → (place : ℕ) → 0 < times place thread
      → returner history place ≡ lane
  -- a stack word is 0 or the word that its lane last pushed there
  pub last_pushed : (shard lane : ℕ) → shard < z.lanes → lane < z.lanes → lane ≢ shard
      → (words.stack shard lane ≡ 0) ⊎ (words.stack shard lane ≡ lanes.pushed shard lane)
  -- the bits of a row are set of its home places that guests returned
  pub bits : (shard row : ℕ) → shard < z.lanes → words.bits shard row ≡ row_word shard row (guest_home z history shard)
  pub returning : (lane : ℕ) → lane < callers z → IsReturning z words history lane (lanes.under lane)
  pub chained : (lane : ℕ) → lane < z.lanes → IsChain z words history lane (lanes.chain lane)

-- ---- the rule

-- what holds between any two steps
pub record Rule (z : Shape) (m : Moment) : Type 0 where
  -- the shape is within its limits
  pub limits : IsShape z
  pub wide : z.last_generation < 2 ^ 32
  pub legal : IsLegal z m.history
  pub count : Count z m.words m.history m.lanes.under
  pub pinned : Pinned z m.history m.lanes.under
  pub state : State z m.words m.history
  pub owed : OwedClaim z m.words m.lanes.under
  pub home : Home z m.words m.history m.lanes
  pub few : (place lane : ℕ) → references_in (pool_after z m.history place).phase lane ≤ most_of z lane
