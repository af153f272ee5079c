-- Words in a text.
use Rattle.std.specs.Prelude.{◌≡◌, ◌==◌, ◌||◌, ℕ, Bool, true, List, ◌∷◌, ◌++◌}

-- a space or a line's end
abbrev pub is_gap : ℕ → Bool
is_gap byte = byte == 32 || byte == 10

-- the text begins with the word, and has a gap behind it
pub record BeginsWith (word text : List ℕ) : Type 0 where
  pub gap : ℕ
  pub is_one : is_gap gap ≡ true
  pub rest : List ℕ
  pub is : text ≡ word ++ gap ∷ rest

-- the word stands in the text between two gaps
pub record StandsIn (word text : List ℕ) : Type 0 where
  pub before : List ℕ
  pub gap : ℕ
  pub is_one : is_gap gap ≡ true
  pub rest : List ℕ
  pub is : text ≡ before ++ gap ∷ rest
  pub begins : BeginsWith word rest
