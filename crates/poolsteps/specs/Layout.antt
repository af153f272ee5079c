-- Where each word of a pool stands among the words of a table, and each slot among its slots.
use Rattle.std.specs.Prelude.{◌&&◌, ℕ, zero, suc, ◌+◌, ◌*◌, ◌%◌, Bool, nat_lt, List, [], ◌∷◌, ◌++◌, Option, slice_index, if◌then◌else◌}
use mathlib.Core.Option as maybe
use lib.ListN.{get_elem?}
use denote.RawPtr.{Ptr}
use Rattle.poolsteps.specs.Spot.{Spot as CellSpot}
use Rattle.keybits.specs.declared.place.TheConstants.{PAGE_NUMBERS}
use Rattle.keybits.specs.declared.shape.Shape.{Shape}
use Rattle.keybits.specs.declared.step.Word.{Word}
use Rattle.keybits.specs.declared.step.Word.TheVariants.{Life, Link, Stack}
use Rattle.keybits.specs.Places.{shard_of}
use Rattle.keybits.specs.Shapes.{callers, page_size, shard_places, all_places, position_of, is_place}
use Rattle.poolsteps.specs.Share.{Share}
use Rattle.poolsteps.specs.Shares.{Slots}
use Rattle.steplaws.specs.Facts.{Words}
use Rattle.poolsteps.specs.declared.layout.PageRow.{PageRow}
use Rattle.poolsteps.specs.declared.layout.TheConstants.{SHARDS_APART, SHARD_PAGES}
use Rattle.poolsteps.specs.declared.find.TheConstants.{WORDS_APART, LIVES_START}

-- a word at which the caller looks, and which no step changes: a lane's own, and one that guests share with it
abbrev pub look_word : ℕ → ℕ
look_word lane = WORDS_APART * (1 + lane % 64)

-- where a place stands in each row of words or of slots
abbrev pub slot_start : Shape → ℕ → ℕ
slot_start z place = position_of z place + SHARDS_APART * shard_of place

-- where the places of a shard begin in such a row
abbrev pub shard_start : Shape → ℕ → ℕ
shard_start z shard = shard * shard_places z + SHARDS_APART * shard

-- how long such a row is
abbrev pub slot_row : Shape → ℕ
slot_row z = all_places z + SHARDS_APART * z.lanes

-- where the row of link words begins: behind that of lifecycle words
abbrev pub links_start : Shape → ℕ
links_start z = LIVES_START + slot_row z

-- how many rows of bits a shard has room for
abbrev pub row_count : Shape → ℕ
row_count z = 64 * z.pages

-- where the words of rows begin: behind those of stacks
abbrev pub bits_start : Shape → ℕ
bits_start z = LIVES_START + 2 * slot_row z + WORDS_APART * (z.lanes * z.lanes)

-- where the word of a shard's row of bits stands
abbrev pub bits_index : Shape → ℕ → ℕ → ℕ
bits_index z shard row = bits_start z + (shard * row_count z + row)

-- the pool has this row
abbrev pub has_row : Shape → ℕ → ℕ → Bool
has_row z shard row = nat_lt shard z.lanes && nat_lt row (row_count z)

-- the value of a row's word; 0 where the pool has no such row
abbrev pub bits_in : Shape → List ℕ → ℕ → ℕ → ℕ
bits_in z words shard row = if has_row z shard row then slice_index words (bits_index z shard row) else 0

-- how many words there are
abbrev pub word_count : Shape → ℕ
word_count z = bits_start z + z.lanes * row_count z

-- where a word of the pool stands
abbrev pub index_in : Shape → Word → ℕ
index_in z (Life place) = LIVES_START + slot_start z place
index_in z (Link place) = links_start z + slot_start z place
index_in z (Stack shard lane) = LIVES_START + 2 * slot_row z + WORDS_APART * (shard * z.lanes + lane)

-- the pool has this word
abbrev pub has_word : Shape → Word → Bool
has_word z (Life place) = is_place z place
has_word z (Link place) = is_place z place
has_word z (Stack shard lane) = nat_lt shard z.lanes && nat_lt lane z.lanes

-- the value of a word of the pool; 0 where it has none such
abbrev pub value_in : Shape → List ℕ → Word → ℕ
value_in z words word = if has_word z word then slice_index words (index_in z word) else 0

-- the words of the pool
abbrev pub words_in : Shape → List ℕ → Words
words_in z words = record {
  life = λ place. value_in z words (Life place);
  link = λ place. value_in z words (Link place);
  stack = λ shard lane. value_in z words (Stack shard lane);
  bits = bits_in z words;
}

-- how many pages the numbers of a pool's places have room for
abbrev pub page_count : Shape → ℕ
page_count z = SHARD_PAGES * z.lanes

-- where the places of a page stand, of those counted over all shards: those of its first place, and none where the shape has no such page
abbrev pub page_row : Shape → ℕ → PageRow
page_row z page = if nat_lt (page % SHARD_PAGES) z.pages
    then record { places = page_size z (page % SHARD_PAGES); start = slot_start z (PAGE_NUMBERS * page) }
    else record { places = 0; start = 0 }

-- the rows of so many pages
abbrev pub page_rows : Shape → ℕ → List PageRow
page_rows z zero = []
page_rows z (suc pages) = page_rows z pages ++ page_row z pages ∷ []

-- where the object of each place stands: in the word of the directory that has the number of its slots
abbrev pub spots_at : Ptr → Shape → ℕ → CellSpot
spots_at directory z place = record { directory = directory; index = slot_start z place }

-- how many slots there are
abbrev pub slot_count : Shape → ℕ
slot_count z = callers z * slot_row z

-- where the slot of a place and a lane stands
abbrev pub slot_index : Shape → ℕ → ℕ → ℕ
slot_index z place lane = lane * slot_row z + slot_start z place

-- the slots of the pool, in this row of slots
abbrev pub slots_in : {T : Type 0} → Shape → List (maybe.Option (Option (Share T))) → Slots T
slots_in z homes place lane = if is_place z place && nat_lt lane (callers z) then get_elem? homes (slot_index z place lane) else maybe.none
