-- Keys: a tag, a place and a generation, packed into one number.
use Rattle.std.specs.Prelude.{◌≡◌, ◌==◌, ◌&&◌, ℕ, ◌+◌, ◌*◌, ◌/◌, ◌%◌, ◌≤◌, Bool, nat_le}
use Rattle.keybits.specs.declared.key.Key.{Key}
use Rattle.keybits.specs.declared.place.Place.{Place}
use Rattle.keybits.specs.declared.shape.Shape.{Shape}
use Rattle.keybits.specs.Places.{number_of}
use Rattle.keybits.specs.Shapes.{is_place}

-- the number of a key with this tag, at the place of this number, of this generation
abbrev pub key_number : ℕ → ℕ → ℕ → ℕ
key_number tag place generation = place + 16777216 * generation + 72057594037927936 * tag

-- the number of the place that a key's number names
abbrev pub place_of : ℕ → ℕ
place_of key = key % 16777216

-- the generation that a key's number names
abbrev pub generation_of : ℕ → ℕ
generation_of key = key / 16777216 % 4294967296

-- the tag that a key's number names
abbrev pub tag_of : ℕ → ℕ
tag_of key = key / 72057594037927936

-- a key of the shape has this number; any other number is outside the shape
abbrev pub is_key : Shape → ℕ → Bool
is_key z key = (tag_of key == z.tag) && is_place z (place_of key) && nat_le 1 (generation_of key)
    && nat_le (generation_of key) z.last_generation

-- the number into which a key is packed
abbrev pub number_in : Key → ℕ
number_in key = key.number

-- the place and the generation fit their fields of a key, and the generation is not 0
abbrev pub IsPackable : Place → ℕ → Type 0
IsPackable place generation = (place.page ≤ 15) × (place.slot ≤ 4095) × (1 ≤ generation)

-- the number is that of the key with this tag, at this place, of this generation
abbrev pub IsKeyOf : ℕ → ℕ → Place → ℕ → Type 0
IsKeyOf number tag place generation = IsPackable place generation × (number ≡ key_number tag (number_of place) generation)
