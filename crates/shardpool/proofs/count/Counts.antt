-- A census counts the places of a shard one after another.
use Rattle.std.proofs.Common.{◌≡◌, ℕ, zero, suc, ◌+◌, ◌-◌, ◌*◌, ◌<◌, ◌≤◌, Bool, true, cond, eqb, List, [], ◌∷◌, ◌++◌, length, replicate, Some, refl, ap, sym, ◌∙◌, ⊎_elim, arith, length-append}
use Rattle.std.specs.Prelude.{slice_get, min}
use Rattle.std.proofs.lemmas.Bool.{cases_lt, le-leb, lt-leb}
use Rattle.std.proofs.lemmas.List.{get_or_append_left, get_or-append-add}
use Rattle.std.proofs.lemmas.Option.{slice_get-get_or}
use mathlib.Core.Logic.{dite}
use native.Mathlib.Decide.{ℕ_discrete}
use Rattle.keybits.specs.declared.shape.Shape.{Shape}
use Rattle.keybits.specs.Places.{shard_of, page_of, slot_of}
use Rattle.keybits.specs.Shapes.{is_place, all_places, page_start, shard_places, index_of, position_of}
use Rattle.keybits.specs.Words.{state_in}
use Rattle.keybits.proofs.ShapeLemmas.{is_place-parts, index-lt, start-le, index_of-lt}
use Rattle.std.proofs.lemmas.Nat.{same_from_place, mul-add-lt}
use Rattle.poolsteps.specs.Layout.{words_in, slot_start, slot_row, shard_start}
use Rattle.shardpool.proofs.free.Words.{stands-from}
use Rattle.shardpool.specs.declared.census.Census.{Census}
use Rattle.shardpool.specs.declared.census.Part.{Part}
use Rattle.shardpool.specs.declared.census.Part.TheVariants.{Free, Unopened, Filling, Present, Marked, Retired}
use Rattle.shardpool.specs.Closings.{counted, all_counted, places_counted}
use Rattle.shardpool.specs.Marks.{part_by, part_by_word, part_in, Counts}

-- ---- sums

one-counted : (census : Census) (part : Part) → places_counted (counted census part) ≡ places_counted census + 1
one-counted census Free = omega arith
one-counted census Unopened = omega arith
one-counted census Filling = omega arith
one-counted census Present = omega arith
one-counted census Marked = omega arith
one-counted census Retired = omega arith

-- a census counts as many places more as are counted
pub many-counted : (census : Census) (parts : List Part) → places_counted (all_counted census parts) ≡ places_counted census + length parts
many-counted census [] = omega arith
many-counted census (part ∷ more) =
    let one = one-counted census part in
    let rest = many-counted (counted census part) more in
    omega arith

pub counted-append : (census : Census) (parts more : List Part) → all_counted census (parts ++ more) ≡ all_counted (all_counted census parts) more
counted-append census [] more = refl
counted-append census (part ∷ parts) more = counted-append (counted census part) parts more

-- ---- elements of lists one behind the other

pub get-front : (xs ys : List Part) (k : ℕ) → k < length xs → slice_get (xs ++ ys) k ≡ slice_get xs k
get-front xs ys k low =
    let long = length-append xs ys in
    slice_get-get_or (xs ++ ys) k Free (omega arith) ∙ (ap Some (get_or_append_left xs ys Free k low) ∙ sym (slice_get-get_or xs k Free low))

pub get-back : (xs ys : List Part) (k : ℕ) → k < length ys → slice_get (xs ++ ys) (length xs + k) ≡ slice_get ys k
get-back xs ys k low =
    let long = length-append xs ys in
    slice_get-get_or (xs ++ ys) (length xs + k) Free (omega arith) ∙ (ap Some (get_or-append-add xs ys k Free) ∙ sym (slice_get-get_or ys k Free low))

-- ---- the places of a shard by index

-- the places before this index are counted
pub record CountsTo (z : Shape) (shard opened : ℕ) (words : List ℕ) (index : ℕ) (old new : Census) : Type 0 where
  pub parts : List Part
  pub wide : length parts ≡ index
  pub each : (place : ℕ) → is_place z place ≡ true → shard_of place ≡ shard → index_of z place < index
      → slice_get parts (index_of z place) ≡ Some (part_in opened (page_of place) ((words_in z words).life place))
  pub counts : new ≡ all_counted old parts

pub counts-none : (z : Shape) (shard opened : ℕ) (words : List ℕ) (census : Census) → CountsTo z shard opened words 0 census census
counts-none z shard opened words census = record { parts = []; wide = refl; each = λ place inside own low. absurd (omega arith); counts = refl }

pub counts-more : (z : Shape) (shard opened : ℕ) (words : List ℕ) (index : ℕ) (part : Part) (old now new : Census) → CountsTo z shard opened words index old now
    → ((place : ℕ) → is_place z place ≡ true → shard_of place ≡ shard → index_of z place ≡ index → part ≡ part_in opened (page_of place) ((words_in z words).life place))
    → new ≡ counted now part → CountsTo z shard opened words (index + 1) old new
counts-more z shard opened words index part old now new h is counts = record {
  parts = h.parts ++ part ∷ [];
  wide = length-append h.parts (part ∷ []) ∙ ap (λ (n : ℕ). n + 1) h.wide;
  each = λ place inside own low. dite (ℕ_discrete (index_of z place) index)
      (λ here.
      let last : slice_get (h.parts ++ part ∷ []) (length h.parts + 0) ≡ Some part = get-back h.parts (part ∷ []) 0 (omega arith) in
      let wide = h.wide in
      let to : index_of z place ≡ length h.parts + 0 = omega arith in
      ap (λ (n : ℕ). slice_get (h.parts ++ part ∷ []) n) to ∙ (last ∙ ap Some (is place inside own here)))
      (λ before. let wide = h.wide in get-front h.parts (part ∷ []) (index_of z place) (omega arith) ∙ h.each place inside own (omega arith));
  counts = counts ∙ (ap (λ (c : Census). counted c part) h.counts ∙ sym (counted-append old h.parts (part ∷ [])));
}

-- a place of an unopened page is that, whatever its word
pub part-unopened : (opened page word : ℕ) → opened ≤ page → part_in opened page word ≡ Unopened
part-unopened opened page word h = ap (λ (b : Bool). cond b Unopened (cond (eqb word 0) Free (part_by (state_in word)))) (le-leb opened page h)

-- places of unopened pages, counted at once
all-unopened : (n : ℕ) (census : Census) → all_counted census (replicate n Unopened) ≡ record census { unopened = census.unopened + n }
all-unopened zero census = let none : census.unopened ≡ census.unopened + 0 = omega arith in λ i. record census { unopened = none i }
all-unopened (suc n) census =
    let more : census.unopened + 1 + n ≡ census.unopened + suc n = omega arith in
    all-unopened n (counted census Unopened) ∙ (λ i. record census { unopened = more i })

wide-unopened : (n : ℕ) → length (replicate n Unopened) ≡ n
wide-unopened zero = refl
wide-unopened (suc n) = ap suc (wide-unopened n)

at-unopened : (n k : ℕ) → k < n → slice_get (replicate n Unopened) k ≡ Some Unopened
at-unopened zero k low = absurd (omega (arith, low))
at-unopened (suc n) zero low = refl
at-unopened (suc n) (suc k) low = at-unopened n k (omega (arith, low))

pub counts-all : (z : Shape) (shard opened : ℕ) (words : List ℕ) (index rest : ℕ) (old now new : Census) → CountsTo z shard opened words index old now
    → index + rest ≡ shard_places z → ((place : ℕ) → is_place z place ≡ true → index ≤ index_of z place → opened ≤ page_of place)
    → new ≡ record now { unopened = now.unopened + rest } → Counts z shard opened words old new
counts-all z shard opened words index rest old now new h sum unopened counts =
    let wide = h.wide in
    let long = wide-unopened rest in
    record {
      parts = h.parts ++ replicate rest Unopened;
      wide = let both = length-append h.parts (replicate rest Unopened) in omega (arith, both, wide, long, sum);
      each = λ place inside own. ⊎_elim
          (λ (low : index_of z place < index). get-front h.parts (replicate rest Unopened) (index_of z place) (omega (arith, low, wide)) ∙ h.each place inside own low)
          (λ (high : index ≤ index_of z place).
          let most = index_of-lt z place inside in
          let back = get-back h.parts (replicate rest Unopened) (index_of z place - index) (omega (arith, high, most, sum, long)) in
          let to : index_of z place ≡ length h.parts + (index_of z place - index) = omega (arith, high, wide) in
          ap (λ (n : ℕ). slice_get (h.parts ++ replicate rest Unopened) n) to
          ∙ (back ∙ (at-unopened rest (index_of z place - index) (omega (arith, high, most, sum))
          ∙ ap Some (sym (part-unopened opened (page_of place) ((words_in z words).life place) (unopened place inside high))))))
          (cases_lt (index_of z place) index);
      counts = counts ∙ (ap (λ (c : Census). record c { unopened = c.unopened + rest }) h.counts
          ∙ (sym (all-unopened rest (all_counted old h.parts)) ∙ sym (counted-append old h.parts (replicate rest Unopened))));
    }

-- the places of the lowest pages come first, and are places of the shard
pub unopened-from : (z : Shape) (opened place : ℕ) → is_place z place ≡ true → page_start z (min opened z.pages) ≤ index_of z place → opened ≤ page_of place
unopened-from z opened place inside high = ⊎_elim
    (λ (low : page_of place < opened).
    let parts = is_place-parts z place inside in
    let below = index-lt z.first_page (page_of place) (slot_of place) (min opened z.pages) parts.2 (omega (arith, low, parts.1)) in
    absurd (omega (arith, high, below)))
    (λ (is : opened ≤ page_of place). is)
    (cases_lt (page_of place) opened)

-- a place before those of unopened pages is of an opened one
pub opened-below : (z : Shape) (opened place : ℕ) → is_place z place ≡ true → index_of z place < page_start z (min opened z.pages) → page_of place < opened
opened-below z opened place inside low = ⊎_elim
    (λ (is : page_of place < opened). is)
    (λ (high : opened ≤ page_of place).
    let parts = is_place-parts z place inside in
    let all = start-le z.first_page (min opened z.pages) (page_of place) (omega (arith, high, parts.1)) in
    absurd (omega (arith, low, all)))
    (cases_lt (page_of place) opened)

-- what a place of an opened page is, its word tells
pub part-opened : (opened page word : ℕ) → page < opened → part_by_word word ≡ part_in opened page word
part-opened opened page word low = ap (λ (b : Bool). cond b Unopened (part_by_word word)) (sym (lt-leb opened page low))

pub opened-few : (z : Shape) (opened : ℕ) → page_start z (min opened z.pages) ≤ shard_places z
opened-few z opened = start-le z.first_page (min opened z.pages) z.pages (omega arith)

-- the census so far has room for the rest
pub counts-room : (z : Shape) (shard opened : ℕ) (words : List ℕ) (index : ℕ) (old now : Census) → CountsTo z shard opened words index old now
    → places_counted now ≡ places_counted old + index
counts-room z shard opened words index old now h =
    let all = many-counted old h.parts in let sum = ap places_counted h.counts in let wide = h.wide in omega arith

-- a position in a shard is one below all places, and the place there is of this shard and index
pub position-below : (z : Shape) (shard index : ℕ) → shard < z.lanes → index < shard_places z → shard * shard_places z + index < all_places z
position-below z shard index low inside = let step = mul-add-lt shard (shard_places z) index z.lanes low inside in omega (arith, step)

-- where the lifecycle word of a place of the shard stands that has this index
pub start-below : (z : Shape) (shard index : ℕ) → shard < z.lanes → index < shard_places z → shard_start z shard + index < slot_row z
start-below z shard index low inside = let below = position-below z shard index low inside in omega (arith, low, below)

pub start-is : (z : Shape) (shard index place start : ℕ) → shard_of place ≡ shard → index_of z place ≡ index → start ≡ shard_start z shard + index
    → start ≡ slot_start z place
start-is z shard index place start own at here = let from = stands-from z place shard own in omega (arith, from, at, here)

pub at-position : (z : Shape) (shard index place : ℕ) → index < shard_places z → is_place z place ≡ true → position_of z place ≡ shard * shard_places z + index
    → (shard_of place ≡ shard) × (index_of z place ≡ index)
at-position z shard index place low inside at = same_from_place (shard_of place) (index_of z place) shard index (shard_places z) (index_of-lt z place inside) low at
