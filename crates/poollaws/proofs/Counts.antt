-- What a census counts of a key that is present at the end.
use Rattle.std.proofs.Common.{◌≡◌, ◌⊎◌, ℕ, zero, suc, ◌+◌, ◌*◌, ◌<◌, ◌≤◌, true, List, [], ◌∷◌, length, Some, None, refl, sym, ap, ◌∙◌, subst, arith, inl, inr, slice_get, get_or, leb-true}
use Rattle.std.proofs.lemmas.Bool.{and_parts}
use Rattle.std.proofs.lemmas.Option.{slice_get-get_or, slice_get_within}
use Rattle.keybits.specs.declared.shape.Shape.{Shape}
use Rattle.keybits.specs.Places.{shard_of, page_of}
use Rattle.keybits.specs.Shapes.{is_place, index_of, shard_places, all_places}
use Rattle.keybits.specs.Keys.{place_of, is_key}
use Rattle.keybits.proofs.ShapeLemmas.{index_of-lt, is_place-parts}
use Rattle.seqpool.specs.Pool.{published, is_current, pool_after}
use Rattle.seqpool.specs.declared.act.Act.{Act}
use Rattle.shardpool.specs.declared.census.Census.{Census}
use Rattle.shardpool.specs.declared.census.Part.{Part}
use Rattle.shardpool.specs.declared.census.Part.TheVariants.{Free, Unopened, Filling, Present, Marked, Retired}
use Rattle.shardpool.specs.Tokens.{PoolOf, LaneOf}
use Rattle.shardpool.specs.Closings.{AreAllLanes, AreLanes, IsPart, counted, all_counted, none_counted, Closes}
use Rattle.shardpool.proofs.at_close.SortedLanes.{one-part}
use Rattle.shardpool.proofs.count.Counts.{position-below}
use Rattle.poollaws.specs.Words.{IsPublished, IsCleared, IsPresent, HasAll}
use Rattle.poollaws.specs.Counted.{CountsPresent}
use Rattle.poollaws.specs.Laws.{LastLaw, CountedLaw, NoneLeftLaw}
use Rattle.poollaws.proofs.Ends.{stays-published, stays-cleared, end-law}

pub last-law : LastLaw
last-law pool lanes census closes = record {
  published = λ number lane key content at is. stays-published lane.book.seen closes.history (closes.last.begins number lane at) key content is;
  cleared = λ number lane key at is. stays-cleared lane.book.seen closes.history (closes.last.begins number lane at) key is;
}

-- ---- the place of a present key is counted

key-place : (z : Shape) (key : ℕ) → is_key z key ≡ true → is_place z (place_of key) ≡ true
key-place z key is = (and_parts _ _ (and_parts _ _ (and_parts _ _ is).0).0).1

-- the lanes of a pool without guests are all its lanes
all-lanes : (pool : PoolOf) (lanes : List LaneOf) → AreLanes pool lanes → AreAllLanes pool lanes
all-lanes pool lanes are = record { count = are.count; owned = are.owned; all = are.all }

counted-present : (pool : PoolOf) (lanes : List LaneOf) (census : Census) → AreAllLanes pool lanes → (closes : Closes pool lanes census)
    → (key : ℕ) (content : List ℕ) → IsPresent pool.shape closes.history key content → CountsPresent closes.census_is key
counted-present pool lanes census are closes key content (current, (references, phase)) =
    let z : Shape = pool.shape in
    let place : ℕ = place_of key in
    let inside : is_place z place ≡ true = key-place z key (and_parts _ _ current).0 in
    let found = are.all (shard_of place) ((is_place-parts z place inside).0) in
    let index : ℕ = found.0 in
    let lane : LaneOf = found.1 in
    let at = found.2 in
    let own : shard_of place ≡ lane.number = sym found.3 in
    let spot : ℕ = index * shard_places z + index_of z place in
    let low = slice_get_within lanes index lane at in
    let wide = closes.census_is.wide in
    let narrow = index_of-lt z place inside in
    let lane_low : index < z.lanes = subst (λ (n : ℕ). index < n) are.count low in
    let below : spot < length closes.census_is.parts =
    subst (λ (n : ℕ). spot < n) (sym wide) (position-below z index (index_of z place) lane_low narrow) in
    let part : Part = get_or closes.census_is.parts spot Free in
    let stands : slice_get closes.census_is.parts spot ≡ Some part = slice_get-get_or closes.census_is.parts spot Free below in
    let is : IsPart closes.history lane place part = closes.census_is.each index lane place part at inside own stands in
    let shape : lane.shape ≡ z = (are.owned index lane at).1 in
    let present : IsPart closes.history lane place Present = (content, references, ap (λ (y : Shape). (pool_after y closes.history place).phase) shape ∙ phase) in
    let same : part ≡ Present = one-part closes.history lane place part Present is present in
    record { index = index; lane = lane; stands = at; own = own; part = stands ∙ ap (λ (p : Part). Some p) same }

pub counted-all : (pool : PoolOf) (lanes : List LaneOf) (census : Census) → AreAllLanes pool lanes → (closes : Closes pool lanes census)
    → (key : ℕ) (content : List ℕ) → IsPublished closes.history key content → IsCleared closes.history key ⊎ CountsPresent closes.census_is key
counted-all pool lanes census are closes key content is = elim (end-law pool.shape closes.history key content closes.last.legal is).0 [
  | inl cleared ↦ inl cleared
  | inr present ↦ inr (counted-present pool lanes census are closes key content present)
]

pub counted-law : CountedLaw
counted-law pool lanes census are closes key content is = counted-all pool lanes census (all-lanes pool lanes are) closes key content is

-- ---- where none is counted

no-fewer : (census : Census) (part : Part) → census.present ≤ (counted census part).present
no-fewer census Free = omega arith
no-fewer census Unopened = omega arith
no-fewer census Filling = omega arith
no-fewer census Present = omega arith
no-fewer census Marked = omega arith
no-fewer census Retired = omega arith

none-fewer : (census : Census) (parts : List Part) → census.present ≤ (all_counted census parts).present
none-fewer census [] = omega arith
none-fewer census (part ∷ more) = let first = no-fewer census part in let rest = none-fewer (counted census part) more in omega (arith, first, rest)

one-present : (census : Census) (parts : List Part) (i : ℕ) → slice_get parts i ≡ Some Present → 1 ≤ (all_counted census parts).present
one-present census [] i is = absurd (cc is)
one-present census (part ∷ more) zero is =
    let same : part ≡ Present = cc is in
    let first : (counted census part).present ≡ census.present + 1 = ap (λ (p : Part). (counted census p).present) same in
    let rest = none-fewer (counted census part) more in omega (arith, first, rest)
one-present census (part ∷ more) (suc i) is = one-present (counted census part) more i is

pub none-left-all : (pool : PoolOf) (lanes : List LaneOf) (census : Census) → AreAllLanes pool lanes → (closes : Closes pool lanes census)
    → census.present ≡ 0 → (key : ℕ) (content : List ℕ) → IsPublished closes.history key content → IsCleared closes.history key
none-left-all pool lanes census are closes none key content is = elim (counted-all pool lanes census are closes key content is) [
  | inl cleared ↦ cleared
  | inr counts ↦
      let some = one-present none_counted closes.census_is.parts _ counts.part in
      let all = ap (λ (c : Census). c.present) closes.census_is.counts in absurd (omega (arith, none, some, all))
]

pub none-left-law : NoneLeftLaw
none-left-law pool lanes census are closes none key content is = none-left-all pool lanes census (all-lanes pool lanes are) closes none key content is
