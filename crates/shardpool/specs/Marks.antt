-- What the census does with the last words of a pool: it marks each free place, and counts what each place is.
use Rattle.std.specs.Prelude.{◌≡◌, ◌≢◌, ◌==◌, ℕ, zero, suc, ◌+◌, ◌*◌, ◌/◌, ◌<◌, true, nat_le, min, List, [], ◌∷◌, ◌++◌, map, length, Contains, Some, slice_get, slice_set, if◌then◌else◌}
use Rattle.core.specs.declared.slots.Slots.{Slots}
use Rattle.core.specs.Mem.Slots.{slots_items, slots_len, slots_ptr, IsFull}
use Rattle.keybits.specs.declared.shape.Shape.{Shape}
use Rattle.keybits.specs.declared.place.Place.{Place}
use Rattle.keybits.specs.declared.step.Word.TheVariants.{Life}
use Rattle.keybits.specs.Places.{shard_of, page_of, number_of}
use Rattle.keybits.specs.Shapes.{page_size, shard_places, is_place, index_of}
use Rattle.keybits.specs.Rows.{set_places}
use Rattle.keybits.specs.Counts.{times}
use Rattle.keybits.specs.Words.{state_in}
use Rattle.keybits.specs.Links.{Leads}
use Rattle.freelists.specs.Queues.{FreePlaces}
use Rattle.poolsteps.specs.Layout.{word_count, index_in, words_in}
use Rattle.shardpool.specs.declared.census.Census.{Census}
use Rattle.shardpool.specs.declared.census.Part.{Part}
use Rattle.shardpool.specs.declared.census.Part.TheVariants.{Free, Unopened, Filling, Present, Marked, Retired}
use Rattle.shardpool.specs.Closings.{all_counted}
use Rattle.shardpool.specs.LaneStates.{IsFirst}

-- a full row of a pool's words
abbrev pub IsRow : Shape → Slots ℕ → Type 0
IsRow z words = IsFull words × (slots_len words ≡ word_count z)

-- the words, but that the lifecycle words of these places are 0, which no lifecycle word is
abbrev pub blanked : Shape → List ℕ → List ℕ → List ℕ
blanked z [] words = words
blanked z (place ∷ more) words = blanked z more (slice_set words (index_in z (Life place)) 0)

-- the row's lifecycle words of these places became 0, and nothing else changed
pub record Blanks (z : Shape) (places : List ℕ) (old new : Slots ℕ) : Type 0 where
  pub items : slots_items new ≡ blanked z places (slots_items old)
  pub row : IsRow z new
  pub start : slots_ptr new ≡ slots_ptr old

-- the link words lead from this word through these places, which are of the shard, to the end
pub record IsThread (z : Shape) (words : List ℕ) (shard word : ℕ) (thread : List ℕ) : Type 0 where
  pub leads : Leads (words_in z words).link shard word thread
  pub inside : (place : ℕ) → 0 < times place thread → (is_place z place ≡ true) × (shard_of place ≡ shard)

-- these are the places on the stacks of a shard, for each other lane a list
abbrev pub AreThreads : Shape → List ℕ → ℕ → (ℕ → List ℕ) → Type 0
AreThreads z words shard threads = (lane : ℕ) → lane < z.lanes → lane ≢ shard
    → IsThread z words shard ((words_in z words).stack shard lane) (threads lane)

-- the places of all these lists, but for the one that the shard itself would have
abbrev pub stacked : ℕ → (ℕ → List ℕ) → ℕ → List ℕ
stacked shard threads zero = []
stacked shard threads (suc lanes) = stacked shard threads lanes ++ (if lanes == shard then [] else threads lanes)

-- how many rows of bits the places of a page take
abbrev pub rows_of_page : Shape → ℕ → ℕ
rows_of_page z page = (page_size z page + 63) / 64

-- the places of a shard whose bits are set in so many rows, from this one on
abbrev pub row_given : ℕ → (ℕ → ℕ) → ℕ → ℕ → List ℕ
row_given shard bits first zero = []
row_given shard bits first (suc rows) = row_given shard bits first rows ++ set_places shard (first + rows) (bits (first + rows))

-- and in the rows of so many pages
abbrev pub pages_given : Shape → ℕ → (ℕ → ℕ) → ℕ → List ℕ
pages_given z shard bits zero = []
pages_given z shard bits (suc pages) = pages_given z shard bits pages ++ row_given shard bits (64 * pages) (rows_of_page z pages)

-- each of these is a place of the shard
abbrev pub ArePlacesOf : Shape → ℕ → List ℕ → Type 0
ArePlacesOf z shard places = (place : ℕ) → 0 < times place places → (is_place z place ≡ true) × (shard_of place ≡ shard)

-- these are the places of a shard that guests returned: those whose bits are set in the rows of opened pages
pub record AreGiven (z : Shape) (words : List ℕ) (shard opened : ℕ) (given : List ℕ) : Type 0 where
  pub list : given ≡ pages_given z shard ((words_in z words).bits shard) (min opened z.pages)
  pub inside : ArePlacesOf z shard given

-- these are the free places of a shard, beside those of its own list: the taken chain, the places on its stacks, and those that guests returned
pub record AreFreePlaces (z : Shape) (words : List ℕ) (shard opened : ℕ) (free : FreePlaces) (chain : List ℕ) (threads : ℕ → List ℕ)
    (given : List ℕ) : Type 0 where
  pub listed : (place : Place) → Contains free.own place → is_place z (number_of place) ≡ true
  pub first : IsFirst free.chain chain
  pub chained : (word : ℕ) × IsThread z words shard word chain
  pub returned : AreThreads z words shard threads
  pub given_are : AreGiven z words shard opened given

-- the places of a shard that were returned: those of its taken chain, those on its stacks, and those that guests returned
abbrev pub returned_places : Shape → ℕ → List ℕ → (ℕ → List ℕ) → List ℕ → List ℕ
returned_places z shard chain threads given = (chain ++ stacked shard threads z.lanes) ++ given

-- all free places of a shard
abbrev pub free_places : Shape → ℕ → FreePlaces → List ℕ → (ℕ → List ℕ) → List ℕ → List ℕ
free_places z shard free chain threads given = returned_places z shard chain threads given ++ map number_of free.own

-- what a place is by these state bits, where it is of an opened page and not free
abbrev pub part_by : ℕ → Part
part_by bits = if bits == 1 then Present else (if bits == 2 then Retired else (if bits == 3 then Marked else Filling))

-- what a place of an opened page is whose word is this one, or 0 where it is free
abbrev pub part_by_word : ℕ → Part
part_by_word word = if word == 0 then Free else part_by (state_in word)

-- what a place of this page is, where so many pages are opened
abbrev pub part_in : ℕ → ℕ → ℕ → Part
part_in opened page word = if nat_le opened page then Unopened else part_by_word word

-- a lifecycle word that is neither 0 nor that of a published or a retired place
abbrev pub IsIdleWord : ℕ → Type 0
IsIdleWord word = (word ≢ 0) × (state_in word ≡ 0)

-- the places of a shard are counted, each by its index
pub record Counts (z : Shape) (shard opened : ℕ) (words : List ℕ) (old new : Census) : Type 0 where
  pub parts : List Part
  pub wide : length parts ≡ shard_places z
  pub each : (place : ℕ) → is_place z place ≡ true → shard_of place ≡ shard
      → slice_get parts (index_of z place) ≡ Some (part_in opened (page_of place) ((words_in z words).life place))
  pub counts : new ≡ all_counted old parts
