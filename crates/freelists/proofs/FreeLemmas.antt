-- What a lane's free places keep: the chain hangs apart from the own list, and there is room for every place.
use Rattle.std.proofs.Common.{◌≡◌, ◌≢◌, ◌⊎◌, inl, inr, ℕ, ◌+◌, ◌-◌, ◌/◌, ◌<◌, ◌≤◌, List, [], ◌∷◌, ◌++◌, length, length-append, length-set, set, slice_index, Option, Some, None, refl, ap, sym, ◌∙◌, subst, arith}
use Rattle.std.specs.List.{Contains}
use Rattle.std.specs.Vec.{vec_capacity}
use Rattle.std.proofs.lemmas.List.Elements.{All-head, Contains-push_cases, Contains-append_right}
use Rattle.keybits.specs.declared.shape.Shape.{Shape}
use Rattle.keybits.specs.declared.place.Place.{Place}
use Rattle.keybits.specs.Places.{number_of}
use Rattle.keybits.specs.Shapes.{shard_places}
use Rattle.keybits.specs.Links.{linked_place}
use Rattle.freelists.specs.declared.local.LocalFree.TheInside.{Inside}
use Rattle.freelists.specs.Shards.{IsShardOf, IsOwn, place_numbered}
use Rattle.freelists.specs.Queues.{FreePlaces, AreOwn, HangsApart, AreFree, IsAway, GoesOnBy, next_in_ring, IsEnd, listed}
use Rattle.keybits.proofs.ShapeLemmas.{shape_bounds}
use Rattle.freelists.proofs.ShardLemmas.{OwnNumber, own_number, linked_own}
use Rattle.freelists.proofs.QueueLemmas.{own-push, own-tail, own_length, first_once, next-lt, length-listed, listed-push, listed-pop}

pub apart-none : (z : Shape) (shard : ℕ) (own : List Place) → HangsApart shard z own None
apart-none z shard own = record { inside = λ place e. absurd (cc e); apart = λ place e. absurd (cc e) }

pub apart-hung : (z : Shape) (shard : ℕ) (own : List Place) (place : Place) → IsOwn shard z place → ¬ Contains own place → HangsApart shard z own (Some place)
apart-hung z shard own place is_own away = record {
  inside = λ p e. let same : place ≡ p = cc e in subst (λ (q : Place). IsOwn shard z q) same is_own;
  apart = λ p e. let same : place ≡ p = cc e in subst (λ (q : Place). ¬ Contains own q) same away;
}

pub apart-push : (z : Shape) (shard : ℕ) (own : List Place) (chain : Option Place) (place : Place) → chain ≢ Some place → HangsApart shard z own chain
    → HangsApart shard z (own ++ place ∷ []) chain
apart-push z shard own chain place unhung h = record {
  inside = h.inside;
  apart = λ p e c. either p e (Contains-push_cases own place p c);
}
  where
    either : (p : Place) → chain ≡ Some p → Contains own p ⊎ (place ≡ p) → ⊥
    either p e (inl among) = h.apart p e among
    either p e (inr same) = unhung (subst (λ (q : Place). chain ≡ Some q) (sym same) e)

pub apart-tail : (z : Shape) (shard : ℕ) (p : Place) (more : List Place) (chain : Option Place) → HangsApart shard z (p ∷ more) chain → HangsApart shard z more chain
apart-tail z shard p more chain h = record {
  inside = h.inside;
  apart = λ q e c. h.apart q e (Contains-append_right (p ∷ []) more q c);
}

-- a place that comes off the list is not the one that hangs
pub apart-first : (z : Shape) (shard : ℕ) (p : Place) (more : List Place) (chain : Option Place) → HangsApart shard z (p ∷ more) chain → chain ≢ Some p
apart-first z shard p more chain h e = h.apart p e (0, omega arith, refl)

-- a place by which the chain goes on
pub apart-followed : (free : FreePlaces) (own : List Place) (link : ℕ) (p : Place) → IsShardOf free.shard free.shape → own ≡ free.own → (link ≡ 0 → ⊥) → GoesOnBy free link
    → p ≡ place_numbered (linked_place free.shard link) → HangsApart free.shard free.shape own (Some p)
apart-followed free own link p ok same some (inl none) at = absurd (some none)
apart-followed free own link p ok same some (inr (place, away, word)) at =
    let here : place ≡ p = sym (at ∙ linked_own free.shape free.shard link place ok away.own word) in
    subst (λ (q : Place). HangsApart free.shard free.shape own (Some q)) here
    (apart-hung free.shape free.shard own place away.own (subst (λ (ps : List Place). ¬ Contains ps place) (sym same) away.unlisted))

-- the places of the own list
abbrev pub own_of : Inside → List Place
own_of i = listed i.ring.items i.first i.count

-- what the fields keep
abbrev pub Keeps : Inside → Type 0
Keeps i = IsShardOf i.shard.number i.shard.shape
    × (length i.ring.items ≡ shard_places i.shard.shape)
    × (i.first < shard_places i.shard.shape)
    × AreOwn i.shard.number i.shard.shape (own_of i)
    × HangsApart i.shard.number i.shard.shape (own_of i) i.chain

-- and what a contract sees of them
abbrev pub shown : Inside → FreePlaces
shown i = record {
  shard = i.shard.number;
  shape = i.shard.shape;
  own = own_of i;
  chain = i.chain;
  room = vec_capacity i.ring;
}

pub all_free : (i : Inside) → Keeps i → AreFree (shown i)
all_free i k =
    let long : i.ring.len ≡ length i.ring.items = i.ring.ok.0 in
    let fits : i.ring.len ≤ vec_capacity i.ring = i.ring.ok.1 in
    let room : length i.ring.items ≡ shard_places i.shard.shape = k.1 in
    record { limits = k.0; own = k.3; chain = k.4; room = omega arith }

-- what hangs is given up, set, or followed
pub keeps-none : (i : Inside) → Keeps i → Keeps (record i { chain = None })
keeps-none i k = (k.0, k.1, k.2, k.3, apart-none i.shard.shape i.shard.number (own_of i))

pub keeps-hung : (i : Inside) (free : FreePlaces) (place : Place) → shown i ≡ free → Keeps i → IsAway free place → Keeps (record i { chain = Some place })
keeps-hung i free place view k is_away =
    let away : IsAway (shown i) place = subst (λ (v : FreePlaces). IsAway v place) (sym view) is_away in
    (k.0, k.1, k.2, k.3, apart-hung i.shard.shape i.shard.number (own_of i) place away.own away.unlisted)

pub keeps-followed : (i : Inside) (free : FreePlaces) (link : ℕ) (p : Place) → shown i ≡ free → Keeps i → (link ≡ 0 → ⊥) → GoesOnBy free link
    → p ≡ place_numbered (linked_place i.shard.number link) → Keeps (record i { chain = Some p })
keeps-followed i free link p view k some goes at =
    (k.0, k.1, k.2, k.3, apart-followed (shown i) (own_of i) link p k.0 refl some (subst (λ (v : FreePlaces). GoesOnBy v link) (sym view) goes) at)

-- the place of a number has that number
pub numbered : (number : ℕ) → number ≡ number_of (place_numbered number)
numbered number = omega arith

-- ---- push

module _ (i : Inside) (free : FreePlaces) (place : Place) (view : shown i ≡ free) (k : Keeps i) (is_away : IsAway free place) where
  away : IsAway (shown i) place
  away = subst (λ (v : FreePlaces). IsAway v place) (sym view) is_away

  more_own : AreOwn i.shard.number i.shard.shape (own_of i ++ place ∷ [])
  more_own = own-push i.shard.shape i.shard.number (own_of i) place k.0 k.3 away.own away.unlisted

  pub push-number : OwnNumber i.shard.shape (number_of place) place
  push-number = own_number i.shard.shape i.shard.number place k.0 away.own

  -- the ring has room for one more
  pub push-room : i.count < length i.ring.items
  push-room =
      let few = own_length i.shard.shape i.shard.number (own_of i ++ place ∷ []) k.0 more_own in
      let long = length-append (own_of i) (place ∷ []) in
      let same = length-listed i.ring.items i.count i.first in omega (arith, few, long, same, k.1)

  pub ring-small : length i.ring.items ≤ 44992
  ring-small = let bound = (shape_bounds i.shard.shape k.0.shape).shard.1 in omega (arith, bound, k.1)

  module _ (end number : ℕ) (is : number ≡ number_of place) (at : IsEnd (length i.ring.items) i.first i.count end) (high : end < length i.ring.items) where
    pub push-listed : listed (set i.ring.items end number) i.first (i.count + 1) ≡ own_of i ++ place ∷ []
    push-listed = listed-push i.shard.shape i.shard.number i.ring.items end number i.count i.first place k.0 away.own is (omega (arith, k.1, k.2)) high push-room at

    pub keeps-push : IsShardOf i.shard.number i.shard.shape
        × (length (set i.ring.items end number) ≡ shard_places i.shard.shape)
        × (i.first < shard_places i.shard.shape)
        × AreOwn i.shard.number i.shard.shape (listed (set i.ring.items end number) i.first (i.count + 1))
        × HangsApart i.shard.number i.shard.shape (listed (set i.ring.items end number) i.first (i.count + 1)) i.chain
    keeps-push = (
      k.0,
      length-set i.ring.items end number ∙ k.1,
      k.2,
      subst (AreOwn i.shard.number i.shard.shape) (sym push-listed) more_own,
      subst (λ (ps : List Place). HangsApart i.shard.number i.shard.shape ps i.chain) (sym push-listed)
          (apart-push i.shard.shape i.shard.number (own_of i) i.chain place away.unhung k.4),
    )

-- ---- pop

module _ (i : Inside) (k : Keeps i) (some : i.count ≡ 0 → ⊥) where
  pub pop-parts : (at : ℕ) → at ≡ next_in_ring (length i.ring.items) i.first
      → own_of i ≡ place_numbered (slice_index i.ring.items i.first) ∷ listed i.ring.items at (i.count - 1)
  pop-parts at is =
      listed-pop i.ring.items i.first i.count some
      ∙ ap (λ (n : ℕ). place_numbered (slice_index i.ring.items i.first) ∷ listed i.ring.items n (i.count - 1)) (sym is)

  all-own : (at : ℕ) → at ≡ next_in_ring (length i.ring.items) i.first
      → AreOwn i.shard.number i.shard.shape (place_numbered (slice_index i.ring.items i.first) ∷ listed i.ring.items at (i.count - 1))
  all-own at is = subst (AreOwn i.shard.number i.shard.shape) (pop-parts at is) k.3

  pub pop-own : IsOwn i.shard.number i.shard.shape (place_numbered (slice_index i.ring.items i.first))
  pop-own =
      let at = next_in_ring (length i.ring.items) i.first in
      All-head (IsOwn i.shard.number i.shard.shape) (place_numbered (slice_index i.ring.items i.first)) (listed i.ring.items at (i.count - 1)) (all-own at refl).inside

  -- its number is that of a place
  pub pop-small : slice_index i.ring.items i.first ≤ 16777215
  pop-small =
      let shard = pop-own.of_shard in
      let low = k.0.shard_below in
      let lanes = (shape_bounds i.shard.shape k.0.shape).lanes in
      let n : ℕ = slice_index i.ring.items i.first in
      let few : n / 65536 < 64 = omega (arith, shard, low, lanes) in
      omega (arith, few)

  module _ (at : ℕ) (is : at ≡ next_in_ring (length i.ring.items) i.first) where
    whole : HangsApart i.shard.number i.shard.shape (place_numbered (slice_index i.ring.items i.first) ∷ listed i.ring.items at (i.count - 1)) i.chain
    whole = subst (λ (ps : List Place). HangsApart i.shard.number i.shard.shape ps i.chain) (pop-parts at is) k.4

    pub keeps-pop : IsShardOf i.shard.number i.shard.shape
        × (length i.ring.items ≡ shard_places i.shard.shape)
        × (at < shard_places i.shard.shape)
        × AreOwn i.shard.number i.shard.shape (listed i.ring.items at (i.count - 1))
        × HangsApart i.shard.number i.shard.shape (listed i.ring.items at (i.count - 1)) i.chain
    keeps-pop = (
      k.0,
      k.1,
      (let below = next-lt (length i.ring.items) i.first (omega (arith, k.1, k.2)) in omega (arith, below, is, k.1)),
      own-tail i.shard.shape i.shard.number (place_numbered (slice_index i.ring.items i.first)) (listed i.ring.items at (i.count - 1)) (all-own at is),
      apart-tail i.shard.shape i.shard.number (place_numbered (slice_index i.ring.items i.first)) (listed i.ring.items at (i.count - 1)) i.chain whole,
    )

    pub pop-away : IsAway (record { shard = i.shard.number; shape = i.shard.shape; own = listed i.ring.items at (i.count - 1); chain = i.chain; room = vec_capacity i.ring })
        (place_numbered (slice_index i.ring.items i.first))
    pop-away = record {
      own = pop-own;
      unlisted = first_once i.shard.shape i.shard.number (place_numbered (slice_index i.ring.items i.first)) (listed i.ring.items at (i.count - 1)) (all-own at is);
      unhung = apart-first i.shard.shape i.shard.number (place_numbered (slice_index i.ring.items i.first)) (listed i.ring.items at (i.count - 1)) i.chain whole;
    }
