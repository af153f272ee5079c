-- The values of words, as they are kept in memory.
use Rattle.std.specs.Prelude.{◌≡◌, ℕ, ◌+◌, ◌*◌, ◌<◌, unwrap_or}
use Rattle.std.specs.BTreeMap.{get}
use Rattle.std.specs.Ordering.{nat_cmp}
use Rattle.keybits.specs.Words.{fresh_word}
use Rattle.steplaws.specs.Facts.{Words}
use Rattle.traceviews.specs.declared.values.Values.{Values}

-- a stack's number, by its shard and the returning lane
abbrev pub stack_number : ℕ → ℕ → ℕ
stack_number shard lane = shard * 4294967296 + lane

-- the values are those of these words; a word that isn't kept has its first value
pub record AreValues (values : Values) (words : Words) : Type 0 where
  pub life : (place : ℕ) → unwrap_or (get nat_cmp values.lives place) fresh_word ≡ words.life place
  pub link : (place : ℕ) → unwrap_or (get nat_cmp values.links place) 0 ≡ words.link place
  pub stack : (shard lane : ℕ) → lane < 4294967296
      → unwrap_or (get nat_cmp values.stacks (stack_number shard lane)) 0 ≡ words.stack shard lane
