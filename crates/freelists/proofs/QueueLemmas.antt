-- The queue of a lane's free places through its link numbers.
use Rattle.std.proofs.Common.{◌≡◌, ◌≢◌, ◌⊎◌, inl, inr, ⊎_elim, ℕ, zero, suc, ◌+◌, ◌-◌, ◌<◌, ◌≤◌, Bool, true, cond, eqb, List, [], ◌∷◌, ◌++◌, length, map, get_or, set, slice_index, refl, ap, sym, ◌∙◌, subst, arith, eq-eqb, ne_eqb, length-set}
use mathlib.Core.Logic.{dite}
use native.Mathlib.Decide.{ℕ_discrete}
use Rattle.std.specs.List.{All, Contains}
use Rattle.std.proofs.lemmas.List.{map-append, get_or-set_same, get_or-set_other}
use Rattle.std.proofs.lemmas.List.Elements.{All-nil, All-head, All-tail, All-push, Contains-append_right}
use Rattle.keybits.specs.declared.shape.Shape.{Shape}
use Rattle.keybits.specs.declared.place.Place.{Place}
use Rattle.keybits.specs.Places.{number_of, shard_of}
use Rattle.keybits.specs.Shapes.{shard_places, is_place, index_of}
use Rattle.keybits.specs.Counts.{times}
use Rattle.keybits.proofs.ShapeLemmas.{index_of-lt, index_of-injective}
use Rattle.freelists.specs.Shards.{IsShardOf, IsOwn, place_numbered}
use Rattle.freelists.specs.Queues.{numbers, AreOwn, next_in_ring, IsEnd, listed}
use Rattle.keybits.proofs.CountLemmas.{count_if, one_at, none_at, times-append, length_le, times-map_le, length-map, Source, source}
use Rattle.freelists.proofs.ShardLemmas.{own_number, shard_of-number, same_own}

-- ---- own places

-- a number in the list is that of a place of the shard
pub among_own : (z : Shape) (shard : ℕ) (places : List Place) (n : ℕ) → IsShardOf shard z → All (IsOwn shard z) places → 0 < times n (numbers places)
    → (is_place z n ≡ true) × (shard_of n ≡ shard)
among_own z shard [] n ok inside some = absurd (omega arith)
among_own z shard (p ∷ more) n ok inside some = dite (ℕ_discrete (number_of p) n)
    (λ here.
    let own : IsOwn shard z p = All-head (IsOwn shard z) p more inside in
    (subst (λ m. is_place z m ≡ true) here (own_number z shard p ok own).is_in, subst (λ m. shard_of m ≡ shard) here (shard_of-number z shard p ok own)))
    (λ other.
    let none : count_if (eqb (number_of p) n) ≡ 0 = none_at (number_of p) n other in
    among_own z shard more n ok (All-tail (IsOwn shard z) p more inside) (omega arith))

-- the number of an own place that isn't in the list isn't among the numbers
pub absent : (z : Shape) (shard : ℕ) (places : List Place) (place : Place) → IsShardOf shard z → All (IsOwn shard z) places → IsOwn shard z place
    → ¬ Contains places place → times (number_of place) (numbers places) ≡ 0
absent z shard [] place ok inside own away = refl
absent z shard (p ∷ more) place ok inside own away = dite (ℕ_discrete (number_of p) (number_of place))
    (λ here.
    let same : p ≡ place = same_own z shard p place ok (All-head (IsOwn shard z) p more inside) own here in
    absurd (away (0, omega arith, same)))
    (λ other.
    let none : count_if (eqb (number_of p) (number_of place)) ≡ 0 = none_at (number_of p) (number_of place) other in
    let rest : times (number_of place) (numbers more) ≡ 0 =
    absent z shard more place ok (All-tail (IsOwn shard z) p more inside) own (λ c. away (Contains-append_right (p ∷ []) more place c)) in
    omega arith)

pub own-nil : (z : Shape) (shard : ℕ) → AreOwn shard z []
own-nil z shard = record { inside = All-nil (IsOwn shard z); each_once = λ n. omega arith }

pub own-push : (z : Shape) (shard : ℕ) (places : List Place) (place : Place) → IsShardOf shard z → AreOwn shard z places → IsOwn shard z place
    → ¬ Contains places place → AreOwn shard z (places ++ place ∷ [])
own-push z shard places place ok all own away = record {
  inside = All-push (IsOwn shard z) places place all.inside own;
  each_once = λ n.
      let split : times n (numbers (places ++ place ∷ [])) ≡ times n (numbers places) + (count_if (eqb (number_of place) n) + 0)
      = ap (times n) (map-append number_of places (place ∷ [])) ∙ times-append n (numbers places) (number_of place ∷ []) in
      let before : times n (numbers places) ≤ 1 = all.each_once n in
      dite (ℕ_discrete (number_of place) n)
      (λ here.
      let one : count_if (eqb (number_of place) n) ≡ 1 = one_at (number_of place) n here in
      let none : times n (numbers places) ≡ 0 = subst (λ m. times m (numbers places) ≡ 0) here (absent z shard places place ok all.inside own away) in
      omega arith)
      (λ other.
      let none : count_if (eqb (number_of place) n) ≡ 0 = none_at (number_of place) n other in
      omega arith);
}

pub own-tail : (z : Shape) (shard : ℕ) (p : Place) (more : List Place) → AreOwn shard z (p ∷ more) → AreOwn shard z more
own-tail z shard p more all = record {
  inside = All-tail (IsOwn shard z) p more all.inside;
  each_once = λ n. let whole : times n (numbers (p ∷ more)) ≤ 1 = all.each_once n in omega arith;
}

-- the first place of a list without repeats is not on the rest
pub first_once : (z : Shape) (shard : ℕ) (p : Place) (more : List Place) → AreOwn shard z (p ∷ more) → ¬ Contains more p
first_once z shard p more all among =
    let once : times (number_of p) (numbers (p ∷ more)) ≤ 1 = all.each_once (number_of p) in
    let here : count_if (eqb (number_of p) (number_of p)) ≡ 1 = one_at (number_of p) (number_of p) refl in
    let again : 0 < times (number_of p) (numbers more) = counted_once more p among in
    omega arith
  where
    counted_once : (places : List Place) (q : Place) → Contains places q → 0 < times (number_of q) (numbers places)
    counted_once [] q (k, below, e) = absurd (omega arith)
    counted_once (r ∷ rest) q (zero, below, e) =
        let one : count_if (eqb (number_of r) (number_of q)) ≡ 1 = one_at (number_of r) (number_of q) (ap number_of e) in omega arith
    counted_once (r ∷ rest) q (suc k, below, e) =
        let later : 0 < times (number_of q) (numbers rest) = counted_once rest q (k, omega arith, e) in omega arith

length-numbers : (places : List Place) → length (numbers places) ≡ length places
length-numbers [] = refl
length-numbers (p ∷ more) = ap suc (length-numbers more)

-- a shard has no more free places than places
pub own_length : (z : Shape) (shard : ℕ) (places : List Place) → IsShardOf shard z → AreOwn shard z places → length places ≤ shard_places z
own_length z shard places ok all =
    let few : length (map (index_of z) (numbers places)) ≤ shard_places z = length_le (shard_places z) (map (index_of z) (numbers places))
    (λ i some.
    let s : Source (index_of z) (numbers places) i = source (index_of z) (numbers places) i some in
    let own = among_own z shard places s.from ok all.inside s.among in
    subst (λ m. m < shard_places z) s.gives (index_of-lt z s.from own.0))
    (times-map_le (index_of z) (numbers places)
    (λ x y among_x among_y same.
    let own_x = among_own z shard places x ok all.inside among_x in
    let own_y = among_own z shard places y ok all.inside among_y in
    index_of-injective z x y own_x.0 own_y.0 (own_x.1 ∙ sym own_y.1) same)
    all.each_once) in
    let same : length (map (index_of z) (numbers places)) ≡ length (numbers places) = length-map (index_of z) (numbers places) in
    let whole : length (numbers places) ≡ length places = length-numbers places in
    omega arith

-- ---- the ring

-- the next position is one more, or the first
next_is : (size at : ℕ) → at < size → ((next_in_ring size at ≡ at + 1) × (at + 1 < size)) ⊎ ((next_in_ring size at ≡ 0) × (at + 1 ≡ size))
next_is size at less = dite (ℕ_discrete (at + 1) size)
    (λ same. inr (ap (λ (t : Bool). cond t 0 (at + 1)) (eq-eqb (at + 1) size same), same))
    (λ other. inl (ap (λ (t : Bool). cond t 0 (at + 1)) (ne_eqb (at + 1) size other), omega arith))

-- the same end seen from the next position
end_next : (size first count end : ℕ) → first < size → end < size → IsEnd size first (suc count) end → IsEnd size (next_in_ring size first) count end
end_next size first count end low high is = ⊎_elim
    (λ (n : (next_in_ring size first ≡ first + 1) × (first + 1 < size)).
    ⊎_elim (λ (e : first + suc count ≡ end). inl (omega (arith, n.0))) (λ (e : first + suc count ≡ end + size). inr (omega (arith, n.0))) is)
    (λ (n : (next_in_ring size first ≡ 0) × (first + 1 ≡ size)).
    ⊎_elim (λ (e : first + suc count ≡ end). absurd (omega (arith, n.1))) (λ (e : first + suc count ≡ end + size). inl (omega (arith, n.0, n.1))) is)
    (next_is size first low)

pub next-lt : (size at : ℕ) → at < size → next_in_ring size at < size
next-lt size at less = ⊎_elim
    (λ (n : (next_in_ring size at ≡ at + 1) × (at + 1 < size)). omega (arith, n.0, n.1))
    (λ (n : (next_in_ring size at ≡ 0) × (at + 1 ≡ size)). omega (arith, n.0))
    (next_is size at less)

-- so many places are listed
pub length-listed : (ring : List ℕ) (count first : ℕ) → length (listed ring first count) ≡ count
length-listed ring zero first = refl
length-listed ring (suc count) first = ap suc (length-listed ring count (next_in_ring (length ring) first))

-- a place whose number is written at the end is the last of one more
listed-snoc : (ring : List ℕ) (end number count first : ℕ) → first < length ring → end < length ring → count < length ring
    → IsEnd (length ring) first count end → listed (set ring end number) first (suc count) ≡ listed ring first count ++ place_numbered number ∷ []
listed-snoc ring end number zero first low high fits is =
    let here : first ≡ end = ⊎_elim (λ (e : first + 0 ≡ end). omega arith) (λ (e : first + 0 ≡ end + length ring). absurd (omega arith)) is in
    ap (λ (x : ℕ). place_numbered x ∷ []) (ap (λ (i : ℕ). get_or (set ring end number) i 0) here ∙ get_or-set_same ring end number 0 high)
listed-snoc ring end number (suc count) first low high fits is =
    let other : first ≢ end = λ same. ⊎_elim (λ (e : first + suc count ≡ end). absurd (omega arith)) (λ (e : first + suc count ≡ end + length ring). absurd (omega arith)) is in
    let same_length : length (set ring end number) ≡ length ring = length-set ring end number in
    let rest = listed-snoc ring end number count (next_in_ring (length ring) first) (next-lt (length ring) first low) high (omega arith)
    (end_next (length ring) first count end low high is) in
    ap (λ (n : ℕ). place_numbered (get_or (set ring end number) first 0) ∷ listed (set ring end number) (next_in_ring n first) (suc count)) same_length
    ∙ (λ i. place_numbered (get_or-set_other ring end first number 0 other i) ∷ rest i)

-- a push: the number of an own place is written behind the others
pub listed-push : (z : Shape) (shard : ℕ) (ring : List ℕ) (end number count first : ℕ) (place : Place) → IsShardOf shard z → IsOwn shard z place
    → number ≡ number_of place → first < length ring → end < length ring → count < length ring
    → IsEnd (length ring) first count end → listed (set ring end number) first (count + 1) ≡ listed ring first count ++ place ∷ []
listed-push z shard ring end number count first place ok own is low high fits at =
    let more : count + 1 ≡ suc count = omega arith in
    let back : place_numbered number ≡ place = ap place_numbered is ∙ (own_number z shard place ok own).back in
    ap (listed (set ring end number) first) more ∙ listed-snoc ring end number count first low high fits at
    ∙ ap (λ (p : Place). listed ring first count ++ p ∷ []) back

-- a pop: the first place, and the rest from the next position on
pub listed-pop : (ring : List ℕ) (first count : ℕ) → (count ≡ 0 → ⊥)
    → listed ring first count ≡ place_numbered (slice_index ring first) ∷ listed ring (next_in_ring (length ring) first) (count - 1)
listed-pop ring first count some =
    let more : count ≡ suc (count - 1) = omega arith in
    ap (listed ring first) more
