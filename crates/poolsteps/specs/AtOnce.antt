-- What the steps of a clear, or of a filling that is dropped, one after another in one operation, tell of the seat that made them.
use Rattle.std.specs.Prelude.{◌≡◌, ◌≢◌, ◌⊎◌, ℕ, ◌+◌, true, false}
use Rattle.atomic_table.specs.Table.{Me}
use Rattle.keybits.specs.declared.shape.Shape.{Shape}
use Rattle.keybits.specs.Keys.{place_of, generation_of}
use Rattle.keybits.specs.Words.{word_with, is_hit, owes_claim}
use Rattle.poolsteps.specs.declared.view.View.{View}
use Rattle.poolsteps.specs.Views.{the_lane, known_of}
use Rattle.poolsteps.specs.Told.{EntersClear, Publishes, Marks, Leaves, Claims, Sees}

-- the word of a place whose key of this generation is published and unmarked, and to which nobody refers
abbrev pub unreferred : ℕ → ℕ
unreferred generation = word_with 1 0 generation

-- the word of a place whose key of this generation is not published yet, and where no ENTER is counted
abbrev pub unpublished : ℕ → ℕ
unpublished generation = word_with 0 0 generation

module _ {S : Type 0} (z : Shape) (key : ℕ) where
  -- the ENTER, MARK, LEAVE and CLAIM of a clear, from the word of the key to which nobody refers
  abbrev pub MakesSweep : Me S View → Me S View → Type 0
  MakesSweep before after = let word : ℕ = unreferred (generation_of key) in
      (entered : Me S View) × EntersClear z key before word entered
      × ((marked : Me S View) × Marks z key entered (word + 4) marked
      × ((left : Me S View) × Leaves z key marked (word + 6) left × Claims z (place_of key) (generation_of key) left (word + 2) after))

  -- the ENTER, MARK and LEAVE of a clear, from this word, which has references to the key
  abbrev pub MakesStrike : ℕ → Me S View → Me S View → Type 0
  MakesStrike word before after =
      (entered : Me S View) × EntersClear z key before word entered
      × ((marked : Me S View) × Marks z key entered (word + 4) marked × Leaves z key marked (word + 6) after)

  -- the ENTER and LEAVE of a clear that misses, at this word, which is then as it was
  abbrev pub MakesMiss : ℕ → Me S View → Me S View → Type 0
  MakesMiss word before after = (entered : Me S View) × EntersClear z key before word entered × Leaves z key entered (word + 4) after

  -- SWEEP, which found this word: the four steps, where that was the key's with no reference; where the key misses there and no claim is then owed, the two of a clear that
  -- misses; and else it was a look
  abbrev pub Sweeps : Me S View → ℕ → Me S View → Type 0
  Sweeps before found after = (found ≡ unreferred (generation_of key) → MakesSweep before after)
      × (is_hit key found ≡ false → owes_claim (found + 4) ≡ false → MakesMiss found before after)
      × (found ≢ unreferred (generation_of key) → (is_hit key found ≡ true) ⊎ (owes_claim (found + 4) ≡ true) → Sees z before after)

  -- STRIKE from an expected word: the three steps, where it found that word; where it found another it was a look
  abbrev pub Strikes : ℕ → Me S View → ℕ → Me S View → Type 0
  Strikes expected before found after = (found ≡ expected → MakesStrike expected before after) × (found ≢ expected → Sees z before after)

  -- the PUBLISH of the cell that the lane knows at the key's place, and the SWEEP of the key, to which nobody refers
  abbrev pub MakesWithdraw : Me S View → Me S View → Type 0
  MakesWithdraw before after = (published : Me S View)
      × Publishes z key (known_of (the_lane before.0) (place_of key)) false before (unpublished (generation_of key)) published
      × MakesSweep published after

  -- WITHDRAW: the five steps, where it found the key not published and no ENTER counted; and else it was a look
  abbrev pub Withdraws : Me S View → ℕ → Me S View → Type 0
  Withdraws before found after = (found ≡ unpublished (generation_of key) → MakesWithdraw before after)
      × (found ≢ unpublished (generation_of key) → Sees z before after)
