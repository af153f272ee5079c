-- What holds at the start, at a moment at which the rule holds, and of what a lane alone changes.
use Rattle.std.specs.Prelude.{◌≡◌, ◌≢◌, ◌↔◌, ℕ, ◌^◌, ◌<◌, true, List, [], ◌++◌}
use Rattle.keybits.specs.declared.shape.Shape.{Shape}
use Rattle.keybits.specs.Shapes.{IsShape, is_place, callers}
use Rattle.keybits.specs.Words.{fresh_word, count_in}
use Rattle.seqpool.specs.declared.act.Act.{Act}
use Rattle.seqpool.specs.Pool.{with, references_in, references, is_marked, pool_after, IsLegal}
use Rattle.seqpool.specs.Histories.{acts_of}
use Rattle.steplaws.specs.declared.pending.Pending.TheVariants.{Nothing}
use Rattle.steplaws.specs.Facts.{Words, Lanes, Moment, moment, home_in, returner, Rule}

-- the words at the start: each lifecycle word is that of generation 1, idle, count 0; each stack is empty
pub record AreFirst (z : Shape) (words : Words) : Type 0 where
  pub life : (place : ℕ) → is_place z place ≡ true → words.life place ≡ fresh_word
  pub stack : (shard lane : ℕ) → words.stack shard lane ≡ 0
  pub bits : (shard row : ℕ) → words.bits shard row ≡ 0

-- the lanes at the start: none has anything under way, pushed or taken
abbrev pub first_lanes : Lanes
first_lanes = record { under = λ _. Nothing; pushed = λ _ _. 0; chain = λ _. [] }

-- the rule holds at the start
abbrev pub StartLaw : Type 0
StartLaw = (z : Shape) (words : Words) → IsShape z → z.last_generation < 2 ^ 32 → AreFirst z words → Rule z (moment words [] first_lanes)

-- where no lane has anything under way, some lane has a reference to each marked key
abbrev pub QuietLaw : Type 0
QuietLaw = (z : Shape) (m : Moment) → Rule z m → ((lane : ℕ) → lane < callers z → m.lanes.under lane ≡ Nothing)
    → (place : ℕ) → is_place z place ≡ true → is_marked (pool_after z m.history place).phase ≡ true
    → (lane : ℕ) × (lane < callers z) × (0 < references_in (pool_after z m.history place).phase lane)

-- where a word's count is 0, no lane has a reference to the key of its place
abbrev pub CountLaw : Type 0
CountLaw = (z : Shape) (m : Moment) → Rule z m → (place : ℕ) → is_place z place ≡ true → count_in (m.words.life place) ≡ 0
    → (lane : ℕ) → references_in (pool_after z m.history place).phase lane ≡ 0

-- a home place of a shard was returned last by a lane of the shape, and another than the shard's
abbrev pub ReturnerLaw : Type 0
ReturnerLaw = (z : Shape) (m : Moment) → Rule z m → (shard place : ℕ) → home_in z m.history shard place ≡ true
    → (returner m.history place < callers z) × (returner m.history place ≢ shard)

-- a home place, and who returned it last, stay while the shard's lane makes no act
abbrev pub HomeStaysLaw : Type 0
HomeStaysLaw = (z : Shape) (history more : List Act) (lane place : ℕ) → IsLegal z (history ++ more) → acts_of lane more ≡ []
    → home_in z history lane place ≡ true → (home_in z (history ++ more) lane place ≡ true)
    × (returner (history ++ more) place ≡ returner history place)

-- the places with a lane, and its references, stay while it makes no act
abbrev pub OwnActsLaw : Type 0
OwnActsLaw = (z : Shape) (history more : List Act) (lane : ℕ) → IsLegal z (history ++ more) → acts_of lane more ≡ []
    → ((place : ℕ) → ((pool_after z history place).phase ≡ with lane) ↔ ((pool_after z (history ++ more) place).phase ≡ with lane))
    × ((key : ℕ) → references z (pool_after z (history ++ more)) lane key ≡ references z (pool_after z history) lane key)
