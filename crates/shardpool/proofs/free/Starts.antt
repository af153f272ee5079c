-- Where the pages of a shard begin among its places, and where a place stands by that.
use Rattle.std.proofs.Common.{◌≡◌, ℕ, zero, suc, ◌+◌, ◌-◌, ◌*◌, ◌<◌, List, [], ◌∷◌, ◌++◌, length, replicate, slice_index_or, slice_set, refl, ap, sym, ◌∙◌, arith}
use Rattle.std.proofs.Math.Nat.{mul-add}
use Rattle.std.proofs.Math.Seq.{set-append_seam}
use Rattle.std.proofs.lemmas.List.{length_push, get_or_push, get_or_append_left, append_assoc}
use mathlib.Core.Logic.{dite}
use native.Mathlib.Decide.{ℕ_discrete}
use Rattle.keybits.specs.declared.shape.Shape.{Shape}
use Rattle.keybits.specs.declared.shape.TheConstants.{MOST_PAGES}
use Rattle.keybits.specs.Places.{shard_of, page_of, slot_of}
use Rattle.keybits.specs.Shapes.{page_start, shard_places}
use Rattle.poolsteps.specs.Layout.{slot_start, shard_start}
use Rattle.shardpool.specs.Rows.{page_starts, starts_row}

pub starts-length : (z : Shape) (count : ℕ) → length (page_starts z count) ≡ count
starts-length z zero = refl
starts-length z (suc count) = omega (arith, length_push (page_starts z count) (page_start z count), starts-length z count)

pub starts-more : (z : Shape) (count : ℕ) → page_starts z count ++ page_start z count ∷ [] ≡ page_starts z (count + 1)
starts-more z count = let next : suc count ≡ count + 1 = omega arith in ap (page_starts z) next

pub start-at : (z : Shape) (count page other : ℕ) → page < count → slice_index_or (page_starts z count) page other ≡ page_start z page
start-at z zero page other below = absurd (omega arith)
start-at z (suc count) page other below = dite (ℕ_discrete page count)
    (λ last. get_or_push (page_starts z count) (page_start z count) other page (starts-length z count ∙ sym last) ∙ ap (page_start z) (sym last))
    (λ earlier.
    get_or_append_left (page_starts z count) (page_start z count ∷ []) other page (omega (arith, starts-length z count))
    ∙ start-at z count page other (omega arith))

-- of the row of all pages
pub start-in : (z : Shape) (count page other : ℕ) → page < count → slice_index_or (starts_row z count) page other ≡ page_start z page
start-in z count page other below =
    get_or_append_left (page_starts z count) (replicate (MOST_PAGES - count) 0) other page (omega (arith, starts-length z count, below))
    ∙ start-at z count page other below

pub start-set : (z : Shape) (page : ℕ) → page < MOST_PAGES → slice_set (starts_row z page) page (page_start z page) ≡ starts_row z (page + 1)
start-set z page low =
    let rest : List ℕ = replicate (MOST_PAGES - (page + 1)) 0 in
    let starts = page_starts z page in
    let left : 16 - page ≡ suc (16 - (page + 1)) = omega (arith, low) in
    ap (λ (n : ℕ). slice_set (starts ++ replicate n 0) page (page_start z page)) left
    ∙ (ap (λ (n : ℕ). slice_set (starts ++ 0 ∷ rest) n (page_start z page)) (sym (starts-length z page))
    ∙ (set-append_seam starts 0 rest (page_start z page)
    ∙ (sym (append_assoc starts (page_start z page ∷ []) rest)
    ∙ ap (λ (all : List ℕ). all ++ rest) (starts-more z page))))

-- a shard begins behind the shards before it
pub shard-is : (z : Shape) (shard apart : ℕ) → apart ≡ shard_places z + 22 → shard * apart ≡ shard_start z shard
shard-is z shard apart wide = rw wide (omega (arith, mul-add shard (shard_places z) 22))

-- a place stands behind the shards before its own, and behind the pages before its own
pub start-is : (z : Shape) (place shard first : ℕ) → shard ≡ shard_start z (shard_of place) → first ≡ page_start z (page_of place)
    → shard + first + slot_of place ≡ slot_start z place
start-is z place shard first begins page = rw (begins, page) (omega arith)
