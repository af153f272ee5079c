-- What is said of a number as a key.
use Rattle.std.specs.Prelude.{◌≡◌, ◌==◌, ℕ, List, [], ◌++◌, Bool, Option, nat_le, if◌then◌else◌, decimal, codes}
use Rattle.std.specs.Io.KnownBytes.{Appends}
use Rattle.keybits.specs.Keys.{place_of, generation_of, tag_of}
use Rattle.keybits.specs.Places.{shard_of, page_of, slot_of}

-- the tag, where it isn't 0
abbrev pub tag_text : ℕ → List ℕ
tag_text tag = if tag == 0 then [] else codes " tag " ++ decimal tag

-- the line of a key with these parts
abbrev pub parts_text : ℕ → ℕ → ℕ → ℕ → ℕ → List ℕ
parts_text shard page slot generation tag =
    codes "shard " ++ decimal shard ++ codes " page " ++ decimal page ++ codes " slot " ++ decimal slot
    ++ codes " generation " ++ decimal generation ++ tag_text tag ++ codes "\n"

-- a key has this number: its generation isn't 0
abbrev pub is_some_key : ℕ → Bool
is_some_key number = nat_le 1 (generation_of number)

-- the line of a number: the parts of the key that has it, or that no key has it
abbrev pub key_line : ℕ → List ℕ
key_line number =
    if is_some_key number
    then parts_text (shard_of (place_of number)) (page_of (place_of number)) (slot_of (place_of number)) (generation_of number)
    (tag_of number)
    else codes "no key\n"

-- known bytes grow by the line of the number, and it is told whether a key has it
pub record WritesKey (number : ℕ) (known : Bool) (old new : Option (List ℕ)) : Type 0 where
  pub told : known ≡ is_some_key number
  pub appended : Appends old new (key_line number)
