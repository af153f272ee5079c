-- Where the shares stand that a lane's rows have, and where a reference's place stands.
use Rattle.std.specs.Prelude.{◌≡◌, ℕ, zero, suc, ◌+◌, ◌-◌, ◌*◌, List, [], ◌∷◌, ◌++◌, replicate, Some, slice_get}
use denote.RawPtr.{Ptr}
use Rattle.poolsteps.specs.Share.{Share}
use Rattle.keybits.specs.declared.shape.Shape.{Shape}
use Rattle.keybits.specs.declared.shape.TheConstants.{MOST_PAGES}
use Rattle.keybits.specs.Shapes.{IsShape, page_start}
use Rattle.keybits.specs.Keys.{place_of}
use Rattle.poolsteps.specs.Layout.{slot_start}
use Rattle.shardpool.specs.HeldKeys.{HeldKey}

-- the share of a row is of the cell whose word has the row's number
abbrev pub AreStanding : {T : Type 0} → Ptr → List (HeldKey T) → Type 0
AreStanding {T} directory rows = (at : ℕ) (row : HeldKey T) (s : Share T) → slice_get rows at ≡ Some row → row.share ≡ Some s
    → s.spot ≡ record { directory = directory; index = at }

-- the number that tells where the places of a pool stand: how large the first page of a shard is, and how many pages it has
abbrev pub pages_code : Shape → ℕ
pages_code z = 32 * z.first_page + z.pages

-- where each of so many pages begins among the places of its shard
abbrev pub page_starts : Shape → ℕ → List ℕ
page_starts z zero = []
page_starts z (suc pages) = page_starts z pages ++ page_start z pages ∷ []

-- the same, with a zero for each further page that a shape may have
abbrev pub starts_row : Shape → ℕ → List ℕ
starts_row z pages = page_starts z pages ++ replicate (MOST_PAGES - pages) 0

-- in each pool with this number the key's place stands here
abbrev pub StandsIn : ℕ → ℕ → ℕ → Type 0
StandsIn code key start = (z : Shape) → IsShape z → pages_code z ≡ code → start ≡ slot_start z (place_of key)
