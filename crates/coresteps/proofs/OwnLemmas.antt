-- A lane's own free places: taking one, opening a page, putting one into the ring; there is always room in the ring.
use Rattle.std.proofs.Common.{◌≡◌, ◌≢◌, ◌⊎◌, inl, inr, ⊎_elim, ℕ, zero, suc, ◌+◌, ◌-◌, ◌<◌, ◌≤◌, Bool, true, cond, eqb, List, [], ◌∷◌, ◌++◌, length, map, drop, set, get_or, Option, Some, None, refl, ap, sym, ◌∙◌, subst, arith, eq-eqb, ne_eqb, append-nil, length-append, length-set}
use mathlib.Core.Logic.{dite}
use native.Mathlib.Decide.{ℕ_discrete}
use Rattle.std.proofs.lemmas.List.{get_or-set_same, get_or-set_other}
use Rattle.keybits.specs.declared.shape.Shape.{Shape}
use Rattle.keybits.specs.declared.step.Step.{Step}
use Rattle.keybits.specs.Places.{shard_of, place_at}
use Rattle.keybits.specs.Shapes.{page_size, shard_places, is_place, index_of}
use Rattle.keybits.specs.Keys.{place_of}
use Rattle.keybits.specs.Counts.{times}
use Rattle.keybits.proofs.CountLemmas.{none_at, times-append, length_le, source, times-map_le, length-map}
use Rattle.keybits.proofs.ShapeLemmas.{index_of-lt, index_of-injective}
use Rattle.seqpool.specs.declared.act.Act.{Act}
use Rattle.seqpool.specs.declared.act.Act.TheVariants as acts
use Rattle.seqpool.specs.Pool.{Pool, pool_after}
use Rattle.steplaws.specs.Calls.{Call, Publishing, Getting, Releasing, Clearing, Creating, Caller}
use Rattle.traces.specs.Books.{Book, caller, call_under_way, reclaimed, returned, of_shard, slots_from, page_places}
use Rattle.traces.specs.Lawful.{World}
use Rattle.traces.specs.Parts.{count_if}
use Rattle.traces.specs.Making.{HasMade}
use Rattle.traces.specs.Owning.{is_with, publishes, IsOwned}
use Rattle.traces.specs.Keeping.{IsSound, IsKept}
use Rattle.traces.proofs.CallActs.{Tail, unclaimed, reclaims, returns, publish_acts, release_acts, GetActs, unasked, shows, misses, get_acts, clear_acts, create_acts}
use Rattle.traces.proofs.SoundLemmas.{count_le}
use Rattle.coresteps.specs.declared.lane.Lane.{Lane}
use Rattle.coresteps.specs.declared.progress.Progress.{Progress}
use Rattle.coresteps.specs.declared.own.OwnList.{OwnList}
use Rattle.coresteps.specs.OwnLists.{next_in_ring, ring_places, unused_places, added_places, own_places}
use Rattle.coresteps.specs.Kept.{IsLaneAt}

-- so many places of a ring are so many
length-ring_places : (ring : List ℕ) (count first : ℕ) → length (ring_places ring first count) ≡ count
length-ring_places ring zero first = refl
length-ring_places ring (suc count) first = ap suc (length-ring_places ring count (next_in_ring (length ring) first))

-- ---- the page opened last

-- slots are the first of them and those behind it
slots_more : (shard page first count : ℕ) → 0 < count → slots_from shard page first count ≡ place_at shard page first ∷ slots_from shard page (first + 1) (count - 1)
slots_more shard page first zero some = absurd (omega arith)
slots_more shard page first (suc count) some =
    let same : count ≡ suc count - 1 = omega arith in
    ap (λ (n : ℕ). place_at shard page first ∷ slots_from shard page (first + 1) n) same

-- the slots behind the first of them
slots_behind : (shard page count : ℕ) → slots_from shard page 1 (count - 1) ≡ drop 1 (slots_from shard page 0 count)
slots_behind shard page zero = refl
slots_behind shard page (suc count) =
    let same : suc count - 1 ≡ count = omega arith in
    ap (slots_from shard page 1) same

unused_suc : (z : Shape) (lane page slot : ℕ) → slot < page_size z page
    → unused_places z lane (suc page) slot ≡ place_at lane page slot ∷ unused_places z lane (suc page) (slot + 1)
unused_suc z lane page slot less =
    let rest : page_size z page - slot - 1 ≡ page_size z page - (slot + 1) = omega arith in
    slots_more lane page slot (page_size z page - slot) (omega arith)
    ∙ ap (λ (n : ℕ). place_at lane page slot ∷ slots_from lane page (slot + 1) n) rest

-- the unused places are the first of them and those behind it
pub unused_next : (z : Shape) (lane opened slot : ℕ) → opened ≢ 0 → slot < page_size z (opened - 1)
    → unused_places z lane opened slot ≡ place_at lane (opened - 1) slot ∷ unused_places z lane opened (slot + 1)
unused_next z lane opened slot some less =
    let is : opened ≡ suc (opened - 1) = omega arith in
    subst (λ (o : ℕ). unused_places z lane o slot ≡ place_at lane (opened - 1) slot ∷ unused_places z lane o (slot + 1)) (sym is)
    (unused_suc z lane (opened - 1) slot less)

-- where the first slot is handed out, the others of the page are unused
unused_opened : (z : Shape) (lane page : ℕ) → unused_places z lane (page + 1) 1 ≡ drop 1 (page_places z lane page)
unused_opened z lane page =
    let is : page + 1 ≡ suc page = omega arith in
    ap (λ (o : ℕ). unused_places z lane o 1) is ∙ slots_behind lane page (page_size z page)

-- a list that is empty has empty parts
second_empty : (xs ys : List ℕ) → xs ++ ys ≡ [] → ys ≡ []
second_empty [] ys e = e
second_empty (x ∷ xs) ys e = absurd (cc e)

first_empty : (xs ys : List ℕ) → xs ++ ys ≡ [] → xs ≡ []
first_empty [] ys e = refl
first_empty (x ∷ xs) ys e = absurd (cc e)

-- where no place is unused the page is handed out
page_done : (z : Shape) (lane opened slot : ℕ) → opened ≢ 0 → unused_places z lane opened slot ≡ [] → page_size z (opened - 1) ≤ slot
page_done z lane opened slot some none = dite (ℕ_discrete (page_size z (opened - 1) - slot) 0)
    (λ all. omega arith)
    (λ left. let bad : [] ≡ place_at lane (opened - 1) slot ∷ unused_places z lane opened (slot + 1)
    = sym none ∙ unused_next z lane opened slot some (omega arith) in absurd (cc bad))

-- a list of no places has neither unused places nor some in the ring
pub all_done : (z : Shape) (lane : ℕ) (ring : List ℕ) (own : OwnList) → own_places z lane ring own ≡ []
    → (own.opened ≢ 0 → page_size z (own.opened - 1) ≤ own.unused) × (own.length ≡ 0)
all_done z lane ring own none =
    let unused = unused_places z lane own.opened own.unused in
    let ringed = ring_places ring own.first own.length in
    let rest : ringed ++ added_places own.added ≡ [] = second_empty unused (ringed ++ added_places own.added) none in
    let count = ap length (first_empty ringed (added_places own.added) rest) in
    let same = length-ring_places ring own.length own.first in (
      λ some. page_done z lane own.opened own.unused some (first_empty unused (ringed ++ added_places own.added) none),
      omega arith,
    )

-- an empty list has the page's other places once the page is opened
pub places_opened : (z : Shape) (lane page : ℕ) (before rest : List ℕ) → before ++ rest ≡ []
    → unused_places z lane (page + 1) 1 ++ rest ≡ drop 1 (page_places z lane page)
places_opened z lane page before rest empty =
    ap (λ (r : List ℕ). unused_places z lane (page + 1) 1 ++ r) (second_empty before rest empty)
    ∙ append-nil (unused_places z lane (page + 1) 1) ∙ unused_opened z lane page

-- ---- the ring

-- the next position is one more, or the first
next_is : (size at : ℕ) → at < size → ((next_in_ring size at ≡ at + 1) × (at + 1 < size)) ⊎ ((next_in_ring size at ≡ 0) × (at + 1 ≡ size))
next_is size at less = dite (ℕ_discrete (at + 1) size)
    (λ same. inr (ap (λ (t : Bool). cond t 0 (at + 1)) (eq-eqb (at + 1) size same), same))
    (λ other. inl (ap (λ (t : Bool). cond t 0 (at + 1)) (ne_eqb (at + 1) size other), omega arith))

-- a position lies so many behind another in a ring
abbrev pub IsEnd : ℕ → ℕ → ℕ → ℕ → Type 0
IsEnd size first count end = (first + count ≡ end) ⊎ (first + count ≡ end + size)

-- the same seen from the next position
end_next : (size first count end : ℕ) → first < size → end < size → IsEnd size first (suc count) end → IsEnd size (next_in_ring size first) count end
end_next size first count end low high is = ⊎_elim
    (λ (n : (next_in_ring size first ≡ first + 1) × (first + 1 < size)).
    ⊎_elim (λ (e : first + suc count ≡ end). inl (omega (arith, n.0))) (λ (e : first + suc count ≡ end + size). inr (omega (arith, n.0))) is)
    (λ (n : (next_in_ring size first ≡ 0) × (first + 1 ≡ size)).
    ⊎_elim (λ (e : first + suc count ≡ end). absurd (omega (arith, n.1))) (λ (e : first + suc count ≡ end + size). inl (omega (arith, n.0, n.1))) is)
    (next_is size first low)

pub next-lt : (size at : ℕ) → at < size → next_in_ring size at < size
next-lt size at less = ⊎_elim
    (λ (n : (next_in_ring size at ≡ at + 1) × (at + 1 < size)). omega (arith, n.0, n.1))
    (λ (n : (next_in_ring size at ≡ 0) × (at + 1 ≡ size)). omega (arith, n.0))
    (next_is size at less)

-- a place that is written behind the places of a ring is the last of one more
ring-snoc : (ring : List ℕ) (end place count first : ℕ) → first < length ring → end < length ring → count < length ring
    → IsEnd (length ring) first count end → ring_places (set ring end place) first (suc count) ≡ ring_places ring first count ++ place ∷ []
ring-snoc ring end place zero first low high fits is =
    let here : first ≡ end = ⊎_elim (λ (e : first + 0 ≡ end). omega arith) (λ (e : first + 0 ≡ end + length ring). absurd (omega arith)) is in
    ap (λ (x : ℕ). x ∷ []) (ap (λ (i : ℕ). get_or (set ring end place) i 0) here ∙ get_or-set_same ring end place 0 high)
ring-snoc ring end place (suc count) first low high fits is =
    let other : first ≢ end = λ same. ⊎_elim (λ (e : first + suc count ≡ end). absurd (omega arith)) (λ (e : first + suc count ≡ end + length ring). absurd (omega arith)) is in
    let same_length : length (set ring end place) ≡ length ring = length-set ring end place in
    let rest = ring-snoc ring end place count (next_in_ring (length ring) first) (next-lt (length ring) first low) high (omega arith)
    (end_next (length ring) first count end low high is) in
    ap (λ (n : ℕ). get_or (set ring end place) first 0 ∷ ring_places (set ring end place) (next_in_ring n first) (suc count)) same_length
    ∙ (λ i. get_or-set_other ring end first place 0 other i ∷ rest i)

-- putting the added place into the ring keeps the places
pub settled_places : (unused ring : List ℕ) (first count end place : ℕ) (added after : Option ℕ) → added ≡ Some place → after ≡ None
    → first < length ring → count < length ring → end < length ring → IsEnd (length ring) first count end
    → unused ++ (ring_places (set ring end place) first (count + 1) ++ added_places after) ≡ unused ++ (ring_places ring first count ++ added_places added)
settled_places unused ring first count end place added after was is low fits high at =
    let more : count + 1 ≡ suc count = omega arith in
    ap (λ (r : List ℕ). unused ++ r)
    (ap (λ (o : Option ℕ). ring_places (set ring end place) first (count + 1) ++ added_places o) is
    ∙ append-nil (ring_places (set ring end place) first (count + 1))
    ∙ ap (ring_places (set ring end place) first) more
    ∙ ring-snoc ring end place count first low high fits at
    ∙ ap (λ (o : Option ℕ). ring_places ring first count ++ added_places o) (sym was))

-- ---- room for a place that was added

-- what is of a shard among places
of_shard-le : (shard : ℕ) (xs : List ℕ) (q : ℕ) → times q (of_shard shard xs) ≤ times q xs
of_shard-le shard [] q = omega arith
of_shard-le shard (x ∷ xs) q =
    let rest = of_shard-le shard xs q in
    dite (ℕ_discrete (shard_of x) shard)
    (λ same. let e : times q (of_shard shard (x ∷ xs)) ≡ times q (x ∷ of_shard shard xs)
    = ap (λ (t : Bool). times q (cond t (x ∷ of_shard shard xs) (of_shard shard xs))) (eq-eqb (shard_of x) shard same) in omega arith)
    (λ other. let e : times q (of_shard shard (x ∷ xs)) ≡ times q (of_shard shard xs)
    = ap (λ (t : Bool). times q (cond t (x ∷ of_shard shard xs) (of_shard shard xs))) (ne_eqb (shard_of x) shard other) in omega arith)

-- and are of the shard
pub of_shard-only : (shard : ℕ) (xs : List ℕ) (q : ℕ) → 0 < times q (of_shard shard xs) → shard_of q ≡ shard
of_shard-only shard [] q some = absurd (omega arith)
of_shard-only shard (x ∷ xs) q some = dite (ℕ_discrete (shard_of x) shard)
    (λ same. let e : times q (of_shard shard (x ∷ xs)) ≡ times q (x ∷ of_shard shard xs)
    = ap (λ (t : Bool). times q (cond t (x ∷ of_shard shard xs) (of_shard shard xs))) (eq-eqb (shard_of x) shard same) in
    dite (ℕ_discrete x q)
    (λ here. ap shard_of (sym here) ∙ same)
    (λ there. let none : count_if (eqb x q) ≡ 0 = none_at x q there in of_shard-only shard xs q (omega arith)))
    (λ other. let e : times q (of_shard shard (x ∷ xs)) ≡ times q (of_shard shard xs)
    = ap (λ (t : Bool). times q (cond t (x ∷ of_shard shard xs) (of_shard shard xs))) (ne_eqb (shard_of x) shard other) in
    of_shard-only shard xs q (omega arith))

-- acts returned no place of this lane's shard, and published a place once at most
record IsQuiet (lane q : ℕ) (made : List Act) : Type 0 where
  returned : shard_of q ≡ lane → times q (returned made) ≡ 0
  publishes : times q (publishes made) ≤ 1

quiet_idle : (lane q : ℕ) (made : List Act) → returned made ≡ [] → publishes made ≡ [] → IsQuiet lane q made
quiet_idle lane q made e f = let none : times q (publishes made) ≡ 0 = ap (times q) f in record {
  returned = λ own. ap (times q) e;
  publishes = omega arith;
}

quiet_tail : {z : Shape} {lane place : ℕ} {Over : Type 0} (q : ℕ) (rest : List Act) → Tail z lane place Over rest → IsQuiet lane q rest
quiet_tail {z} {lane} {place} q rest (unclaimed e) = quiet_idle lane q rest (ap returned e) (ap publishes e)
quiet_tail {z} {lane} {place} q rest (reclaims generation e only) = quiet_idle lane q rest (ap returned e) (ap publishes e)
quiet_tail {z} {lane} {place} q rest (returns generation e below other) =
    let none : times q (publishes rest) ≡ 0 = ap (λ (r : List Act). times q (publishes r)) e in record {
      returned = λ own. ap (λ (r : List Act). times q (returned r)) e
          ∙ (let apart : count_if (eqb place q) ≡ 0 = none_at place q (λ same. other (ap shard_of same ∙ own)) in omega arith);
      publishes = omega arith;
    }

-- a first act that returned and published nothing
quiet_more : (lane q : ℕ) (first : Act) (made rest : List Act) → made ≡ first ∷ rest → returned (first ∷ rest) ≡ returned rest
    → publishes (first ∷ rest) ≡ publishes rest → IsQuiet lane q rest → IsQuiet lane q made
quiet_more lane q first made rest e f g quiet =
    let few = quiet.publishes in
    let same : times q (publishes made) ≡ times q (publishes rest) = ap (times q) (ap publishes e ∙ g) in record {
      returned = λ own. ap (times q) (ap returned e ∙ f) ∙ quiet.returned own;
      publishes = omega arith;
    }

quiet_publish : (lane q key : ℕ) (content : List ℕ) (with_ref : Bool) (made : List Act) → made ≡ acts.Publish lane key content with_ref ∷ []
    → IsQuiet lane q made
quiet_publish lane q key content with_ref made e =
    let one : times q (publishes made) ≡ times q (place_of key ∷ []) = ap (λ (r : List Act). times q (publishes r)) e in
    let few = count_le (eqb (place_of key) q) in record {
      returned = λ own. ap (λ (r : List Act). times q (returned r)) e;
      publishes = omega arith;
    }

module _ (c : Caller) (q : ℕ) where
  quiet_get : (key : ℕ) (Over : Type 0) (made : List Act) → GetActs c key Over made → IsQuiet c.lane q made
  quiet_get key Over made (unasked e) = quiet_idle c.lane q made (ap returned e) (ap publishes e)
  quiet_get key Over made (shows content e is) = quiet_idle c.lane q made (ap returned e) (ap publishes e)
  quiet_get key Over made (misses rest e tail) = quiet_more c.lane q _ made rest e refl refl (quiet_tail q rest tail)

  -- the acts of any call
  quiet_call : (o : Option Call) (steps : List Step) (made : List Act) → HasMade c o steps made → IsQuiet c.lane q made
  quiet_call None steps made has = quiet_idle c.lane q made (ap returned has.1) (ap publishes has.1)
  quiet_call (Some (Publishing key content with_ref)) steps made has = ⊎_elim
      (λ t. quiet_idle c.lane q made (ap returned t.0) (ap publishes t.0))
      (λ t. quiet_publish c.lane q key content with_ref made t.0)
      (publish_acts c key content with_ref steps made has.0 has.1)
  quiet_call (Some (Getting key)) steps made has = quiet_get key _ made (get_acts c key steps made has.0 has.1)
  quiet_call (Some (Releasing key)) steps made has = ⊎_elim
      (λ t. quiet_idle c.lane q made (ap returned t.0) (ap publishes t.0))
      (λ t. quiet_more c.lane q _ made t.0 t.1 refl refl (quiet_tail q t.0 t.2))
      (release_acts c key steps made has.0 has.1)
  quiet_call (Some (Clearing key)) steps made has = ⊎_elim
      (λ (e : made ≡ []). quiet_idle c.lane q made (ap returned e) (ap publishes e))
      (λ t. quiet_more c.lane q _ made t.1 t.2 refl refl (quiet_tail q t.1 t.3))
      (clear_acts c key steps made has.0 has.1)
  quiet_call (Some (Creating own chain opened)) steps made has = ⊎_elim
      (λ (e : made ≡ []). quiet_idle c.lane q made (ap returned e) (ap publishes e))
      (λ t. quiet_idle c.lane q made (ap returned t.1) (ap publishes t.1))
      (create_acts c own chain opened steps made has.0 has.1)

module _ (z : Shape) (pool : Pool) (lane : ℕ) (b : Book) (owned : IsOwned z pool lane b) (sound : IsSound z pool lane b)
    (own_shard : (place : ℕ) → 0 < times place b.own → shard_of place ≡ lane) where
  -- the own places, and those of the own shard that the call reclaimed
  abbrev listed : List ℕ
  listed = b.own ++ of_shard lane (reclaimed z.last_generation b.acts)

  listed_times : (q : ℕ) → times q listed ≡ times q b.own + times q (of_shard lane (reclaimed z.last_generation b.acts))
  listed_times q = times-append q b.own (of_shard lane (reclaimed z.last_generation b.acts))

  listed_shard : (q : ℕ) → 0 < times q listed → shard_of q ≡ lane
  listed_shard q some = let t = listed_times q in dite (ℕ_discrete (times q b.own) 0)
      (λ none. of_shard-only lane (reclaimed z.last_generation b.acts) q (omega arith))
      (λ more. own_shard q (omega arith))

  listed_inside : (q : ℕ) → 0 < times q listed → is_place z q ≡ true
  listed_inside q some = let t = listed_times q in let le = of_shard-le lane (reclaimed z.last_generation b.acts) q in owned.inside q (omega arith)

  -- a place that the call published isn't with the lane any more
  with_or_published : (q : ℕ) → count_if (is_with lane (pool q).phase) + times q (publishes b.acts) ≤ 1
  with_or_published q =
      let quiet = quiet_call (caller z lane b) q (call_under_way b) b.steps b.acts owned.call in
      let few = quiet.publishes in
      let bit = count_le (is_with lane (pool q).phase) in
      dite (ℕ_discrete (times q (publishes b.acts)) 0)
      (λ none. omega arith)
      (λ some. let gone : count_if (is_with lane (pool q).phase) ≡ 0 = ap count_if (sound.apart q (omega arith)) in omega arith)

  listed_once : (q : ℕ) → times q listed ≤ 1
  listed_once q = dite (ℕ_discrete (times q listed) 0) (λ none. omega arith) (λ other. few (omega arith))
    where
      few : 0 < times q listed → times q listed ≤ 1
      few some =
          let t = listed_times q in
          let le = of_shard-le lane (reclaimed z.last_generation b.acts) q in
          let same = owned.places q (listed_inside q some) in
          let stays : times q (returned b.acts) ≡ 0
          = (quiet_call (caller z lane b) q (call_under_way b) b.steps b.acts owned.call).returned (listed_shard q some) in
          let one = with_or_published q in
          omega arith

  -- there are as many as the shard has places, at most
  listed-le : length listed ≤ shard_places z
  listed-le =
      let mapped : length (map (index_of z) listed) ≤ shard_places z = length_le (shard_places z) (map (index_of z) listed)
      (λ x some. let s = source (index_of z) listed x some in
      subst (λ (n : ℕ). n < shard_places z) s.gives (index_of-lt z s.from (listed_inside s.from s.among)))
      (times-map_le (index_of z) listed
      (λ p q some_p some_q same. index_of-injective z p q (listed_inside p some_p) (listed_inside q some_q)
      (listed_shard p some_p ∙ sym (listed_shard q some_q)) same)
      listed_once) in
      let same = length-map (index_of z) listed in
      omega arith

-- the places of a list in which one was added
added_length : (unused ring : List ℕ) (first count : ℕ) (added : Option ℕ) (place : ℕ) → added ≡ Some place
    → count < length (unused ++ (ring_places ring first count ++ added_places added))
added_length unused ring first count added place is =
    let one : length (added_places added) ≡ 1 = ap (λ (o : Option ℕ). length (added_places o)) is in
    let whole = length-append unused (ring_places ring first count ++ added_places added) in
    let parts = length-append (ring_places ring first count) (added_places added) in
    let ringed = length-ring_places ring count first in
    omega arith

-- where a place was added the ring has room for it
pub room_for_added : (z : Shape) (w : World) (number : ℕ) (lane : Lane) (p : Progress) → IsKept z w → number < z.lanes
    → IsLaneAt z w.history number lane p (w.books number) → (place : ℕ) → p.own.added ≡ Some place → p.own.length < length lane.ring.items
room_for_added z w number lane p kept inside at place added =
    let b = w.books number in
    let some = added_length (unused_places z number p.own.opened p.own.unused) lane.ring.items p.own.first p.own.length p.own.added place added in
    let same : length (own_places z number lane.ring.items p.own) ≡ length (b.own ++ of_shard number (reclaimed z.last_generation b.acts)) = ap length at.own in
    let most = listed-le z (pool_after z w.history) number b (kept.holds.owned number inside) (kept.sound number inside) at.own_shard in
    let room = at.list.room in
    omega arith
