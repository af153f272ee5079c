-- The census goes over the states, one shard after another.
use Rattle.std.proofs.Common.{◌≡◌, ◌≢◌, ◌⊎◌, ⊎_elim, ℕ, Bool, false, zero, suc, ◌+◌, ◌*◌, ◌<◌, ◌≤◌, true, List, [], ◌∷◌, ◌++◌, map, length, Some, refl, ap, sym, ◌∙◌, subst, arith, length-append, inl, inr}
use Rattle.std.specs.Prelude.{Option, slice_get}
use Rattle.std.specs.List.{Contains, All}
use Rattle.std.proofs.lemmas.List.Elements.{All-get_or}
use Rattle.std.proofs.Math.ListN.{get_or}
use Rattle.std.proofs.lemmas.Option.{slice_get-get_or, slice_get_within, get_or_from_slice_get}
use Rattle.std.proofs.lemmas.Nat.{mul-add-lt}
use mathlib.Core.Logic.{dite}
use native.Mathlib.Decide.{ℕ_discrete}
use Rattle.core.specs.declared.slots.Slots.{Slots}
use Rattle.core.specs.Mem.Slots.{slots_items, slots_ptr}
use Rattle.keybits.specs.declared.shape.Shape.{Shape}
use Rattle.keybits.specs.Places.{shard_of, page_of, number_of}
use Rattle.keybits.specs.Shapes.{IsShape, is_place, shard_places, index_of}
use Rattle.keybits.specs.Counts.{times}
use Rattle.keybits.proofs.CountLemmas.{times-append, one_at, none_at, no_times, length_le}
use Rattle.keybits.proofs.ShapeLemmas.{is_place-parts, index_of-lt, shape_bounds}
use Rattle.freelists.specs.Queues.{FreePlaces}
use Rattle.freelists.specs.Shards.{ShardPages}
use Rattle.keybits.specs.Words.{state_in}
use Rattle.seqpool.specs.declared.act.Act.{Act}
use Rattle.seqpool.specs.Pool.{Phase, with, published, home, retired, has, pool_after}
use Rattle.steplaws.specs.Facts.{bits_of}
use Rattle.steplaws.proofs.HomePlaces.{has-some, has-none}
use Rattle.poolsteps.specs.Share.{Share}
use Rattle.poolsteps.specs.Spot.{Spot as CellSpot}
use Rattle.poolsteps.specs.Joins.{IsSlotRow, IsSpread, IsResting, HasCell, HasNoCell}
use Rattle.poolsteps.specs.Views.{the_lane}
use Rattle.poolsteps.specs.Layout.{words_in}
use Rattle.shardpool.specs.declared.census.Census.{Census}
use Rattle.shardpool.specs.declared.census.Part.{Part}
use Rattle.shardpool.specs.declared.pool.LaneState.{LaneState}
use Rattle.shardpool.specs.Tokens.{LaneOf}
use Rattle.shardpool.specs.Closings.{IsPart, none_counted, all_counted, places_counted, IsCensus, IsLast, AreLast}
use Rattle.shardpool.specs.Marks.{IsRow, Blanks, stacked, AreFreePlaces, returned_places, free_places, part_in, IsIdleWord, Counts}
use Rattle.shardpool.proofs.count.Marks.{AreBlanked, blanks-none, blanks-then, blanks-words}
use Rattle.shardpool.proofs.count.Lists.{free-stays, among-number, stacked-inside}
use Rattle.shardpool.proofs.count.Counts.{many-counted, counted-append, get-front, get-back}
use Rattle.shardpool.specs.Remains.{HasCells, IsDrained, DrainsShard}
use Rattle.shardpool.proofs.at_close.DroppedCells.{SameSlots, cell-stays, drained-stays}
use Rattle.shardpool.proofs.count.Shards.{threads_of, given_of, free-stand, word-some, stacked-home, given-at-home, home-returned, times-free, part-is}
use Rattle.shardpool.proofs.at_close.ReturnedShares.{some-same}

-- what holds of all entries holds of the one at an index
pub all-at : {X : Type 0} (P : X → Type 0) (xs : List X) (i : ℕ) (x : X) → All P xs → slice_get xs i ≡ Some x → P x
all-at P xs i x all at = subst P (get_or_from_slice_get xs i x x at) (All-get_or P xs i x (slice_get_within xs i x at) all)

-- ---- each lane stands once

-- a lane of this number stands at the index
abbrev At : List LaneOf → ℕ → ℕ → Type 0
At lanes index number = (lane : LaneOf) × (slice_get lanes index ≡ Some lane) × (lane.number ≡ number)

at-one : (lanes : List LaneOf) (index m n : ℕ) → At lanes index m → At lanes index n → m ≡ n
at-one lanes index m n a b = sym a.2 ∙ (ap (λ (l : LaneOf). l.number) (some-same a.0 b.0 (sym a.1 ∙ b.1)) ∙ b.2)

-- so many indexes, at which the lanes of the first numbers stand
pub record Picked (lanes : List LaneOf) (count : ℕ) : Type 0 where
  pub indexes : List ℕ
  pub wide : length indexes ≡ count
  pub stands : (index : ℕ) → 0 < times index indexes → (number : ℕ) × (number < count) × At lanes index number
  pub once : (index : ℕ) → times index indexes ≤ 1
  pub one : (i j number : ℕ) → 0 < times i indexes → 0 < times j indexes → At lanes i number → At lanes j number → i ≡ j

pick-more : (lanes : List LaneOf) (count index : ℕ) → At lanes index count → Picked lanes count → Picked lanes (suc count)
pick-more lanes count index at p = record {
  indexes = index ∷ p.indexes;
  wide = ap suc p.wide;
  stands = λ i some. dite (ℕ_discrete index i)
      (λ here. (count, omega arith, subst (λ n. At lanes n count) here at))
      (λ other. let none = none_at index i other in let s = p.stands i (omega arith) in (s.0, omega (arith, s.1), s.2));
  once = λ i. dite (ℕ_discrete index i)
      (λ here. let one = one_at index i here in let rest = absent i here in omega arith)
      (λ other. let none = none_at index i other in let rest = p.once i in omega arith);
  one = λ i j number some_i some_j at_i at_j. dite (ℕ_discrete index i)
      (λ here_i. dite (ℕ_discrete index j)
      (λ here_j. sym here_i ∙ here_j)
      (λ other_j.
      let none = none_at index j other_j in
      let is : number ≡ count = at-one lanes i number count at_i (subst (λ n. At lanes n count) here_i at) in
      absurd (later j number (omega arith) at_j is)))
      (λ other_i.
      let none_i = none_at index i other_i in
      dite (ℕ_discrete index j)
      (λ here_j.
      let is : number ≡ count = at-one lanes j number count at_j (subst (λ n. At lanes n count) here_j at) in
      absurd (later i number (omega arith) at_i is))
      (λ other_j. let none_j = none_at index j other_j in p.one i j number (omega arith) (omega arith) at_i at_j));
}
  where
    later : (i number : ℕ) → 0 < times i p.indexes → At lanes i number → number ≡ count → ⊥
    later i number some at_i is = let s = p.stands i some in let same = at-one lanes i s.0 number s.2 at_i in let low = s.1 in omega arith

    absent : (i : ℕ) → index ≡ i → times i p.indexes ≡ 0
    absent i here = no_times (times i p.indexes) (λ some. later i count some (subst (λ n. At lanes n count) here at) refl)

picks : (lanes : List LaneOf) (count most : ℕ) → count ≤ most → ((number : ℕ) → number < most → (index : ℕ) × At lanes index number) → Picked lanes count
picks lanes zero most low all = record {
  indexes = [];
  wide = refl;
  stands = λ i some. absurd (omega arith);
  once = λ i. omega arith;
  one = λ i j number some_i some_j at_i at_j. absurd (omega arith);
}
picks lanes (suc count) most low all = let a = all count (omega arith) in pick-more lanes count a.0 a.1 (picks lanes count most (omega arith) all)

-- where as many lanes stand as there are numbers, and each number is one's, it is one's alone
pub same-index : (lanes : List LaneOf) (most : ℕ) → length lanes ≡ most → ((number : ℕ) → number < most → (index : ℕ) × At lanes index number)
    → (i j : ℕ) (a b : LaneOf) → slice_get lanes i ≡ Some a → slice_get lanes j ≡ Some b → a.number ≡ b.number → a.number < most → i ≡ j
same-index lanes most count all i j a b at_i at_j same low =
    let p = picks lanes most most (omega arith) all in
    p.one i j b.number (among p i a at_i) (among p j b at_j) (a, at_i, same) (b, at_j, refl)
  where
    low_index : (k : ℕ) (l : LaneOf) → slice_get lanes k ≡ Some l → k < most
    low_index k l at = let within = slice_get_within lanes k l at in omega arith

    among : (p : Picked lanes most) (k : ℕ) (l : LaneOf) → slice_get lanes k ≡ Some l → 0 < times k p.indexes
    among p k l at = dite (ℕ_discrete (times k p.indexes) 0)
        (λ none.
        let wide = p.wide in
        let most_all = length_le most (k ∷ p.indexes)
        (λ x some. dite (ℕ_discrete k x)
        (λ here. subst (λ n. n < most) here (low_index k l at))
        (λ other. let no = none_at k x other in let s = p.stands x (omega arith) in low_index x s.2.0 s.2.1))
        (λ x. dite (ℕ_discrete k x)
        (λ here. let one = one_at k x here in let rest : times x p.indexes ≡ 0 = ap (λ n. times n p.indexes) (sym here) ∙ none in omega arith)
        (λ other. let no = none_at k x other in let rest = p.once x in omega arith)) in
        absurd (omega arith))
        (λ some. omega arith)

-- ---- what stands after so many states

-- the places of the shards of the lanes so far are counted, of which the free ones are marked
pub record SoFar (z : Shape) (history : List Act) (lanes : List LaneOf) (old : Slots ℕ) (count : ℕ) (now : Slots ℕ) (census : Census) : Type 0 where
  pub marked : List ℕ
  pub blanks : Blanks z marked old now
  pub inside : (place : ℕ) → 0 < times place marked → is_place z place ≡ true
  pub earlier : (place : ℕ) → 0 < times place marked → (index : ℕ) × (index < count) × At lanes index (shard_of place)
  pub parts : List Part
  pub wide : length parts ≡ count * shard_places z
  pub each : (index : ℕ) (lane : LaneOf) (place : ℕ) (part : Part) → index < count → slice_get lanes index ≡ Some lane → is_place z place ≡ true → shard_of place ≡ lane.number
      → slice_get parts (index * shard_places z + index_of z place) ≡ Some part → IsPart history lane place part
  pub counts : census ≡ all_counted none_counted parts

pub so-far-none : (z : Shape) (history : List Act) (lanes : List LaneOf) (words : Slots ℕ) → IsRow z words → SoFar z history lanes words 0 words none_counted
so-far-none z history lanes words row = record {
  marked = [];
  blanks = blanks-none z words row;
  inside = λ place some. absurd (omega arith);
  earlier = λ place some. absurd (omega arith);
  parts = [];
  wide = omega arith;
  each = λ index lane place part low. absurd (omega arith);
  counts = refl;
}

-- how many places are counted
pub so-far-counts : (z : Shape) (history : List Act) (lanes : List LaneOf) (old now : Slots ℕ) (count : ℕ) (census : Census) → SoFar z history lanes old count now census
    → places_counted census ≡ count * shard_places z
so-far-counts z history lanes old now count census h =
    let sum = ap places_counted h.counts in let all = many-counted none_counted h.parts in let wide = h.wide in omega arith

-- there is room for a shard more
pub so-far-room : (z : Shape) → IsShape z → (history : List Act) (lanes : List LaneOf) (old now : Slots ℕ) (count : ℕ) (census : Census) → SoFar z history lanes old count now census
    → count < z.lanes → places_counted census + shard_places z ≤ 4294967295
so-far-room z ok history lanes old now count census h low =
    let all = so-far-counts z history lanes old now count census h in
    let bounds = shape_bounds z ok in
    let some = bounds.shard.0 in
    let top = bounds.all in
    let few = bounds.shard.1 in
    let step = mul-add-lt count (shard_places z) 0 z.lanes low (omega arith) in
    omega (arith, step)

-- the slots after the shards of so many states: these have no cells more, and those of the other shards are as before
pub record SlotsSoFar {T : Type 0} (z : Shape) (history : List Act) (lanes : List LaneOf) (count : ℕ) (old now : Slots (Option (Share T))) : Type 0 where
  pub row : IsSlotRow z now
  pub start : slots_ptr now ≡ slots_ptr old
  pub kept : (place : ℕ) → is_place z place ≡ true → ((index : ℕ) → index < count → At lanes index (shard_of place) → ⊥) → SameSlots z (slots_items old) (slots_items now) place
  pub gone : (place : ℕ) → is_place z place ≡ true → (index : ℕ) → index < count → At lanes index (shard_of place) → IsDrained z history lanes (slots_items now) place

pub slots-so-far-none : {T : Type 0} (z : Shape) (history : List Act) (lanes : List LaneOf) (slots : Slots (Option (Share T))) → IsSlotRow z slots
    → SlotsSoFar z history lanes 0 slots slots
slots-so-far-none z history lanes slots row = record {
  row = row;
  start = refl;
  kept = λ place inside none lane low. refl;
  gone = λ place inside index low. absurd (omega (arith, low));
}

-- ---- the next state

-- an element before the end of a list
get-some : {X : Type 0} (xs : List X) (k : ℕ) → k < length xs → (x : X) × (slice_get xs k ≡ Some x)
get-some [] k low = absurd (omega arith)
get-some (x ∷ xs) k low = (get_or (x ∷ xs) k x, slice_get-get_or (x ∷ xs) k x low)

module _ {T : Type 0} (z : Shape) (ok : IsShape z) (history : List Act) (lanes : List LaneOf) (states : List (LaneState T)) (old : Slots ℕ) (row : IsRow z old)
    (last : AreLast z history lanes states (words_in z (slots_items old))) (count : ℕ) (state : LaneState T) (at : slice_get states count ≡ Some state) where
  -- the lane of the next state
  pub found : (lane : LaneOf) × (slice_get lanes count ≡ Some lane)
  found = let within = slice_get_within states count state at in let a = last.count.0 in let b = last.count.1 in get-some lanes count (omega arith)

  abbrev pub lane : LaneOf
  lane = found.0

  pub own : IsLast z history (words_in z (slots_items old)) lane state
  own = last.each count lane state found.1 at

  abbrev pub chain : List ℕ
  chain = (the_lane lane.book).chain

  abbrev pub threads : ℕ → List ℕ
  threads = threads_of z history lanes states (slots_items old) last lane state own

  abbrev pub given : List ℕ
  given = given_of z history lanes states (slots_items old) last lane state own

  -- how often a place was returned, and stands among the free ones
  times-returned : (place : ℕ) → times place (returned_places z lane.number chain threads given)
      ≡ times place chain + times place (stacked lane.number threads z.lanes) + times place given
  times-returned place =
      let front = times-append place chain (stacked lane.number threads z.lanes) in
      let mid = times-append place (chain ++ stacked lane.number threads z.lanes) given in
      omega (arith, front, mid)

  times-all : (place : ℕ) → times place (free_places z lane.number state.free chain threads given)
      ≡ times place chain + times place (stacked lane.number threads z.lanes) + times place given + times place (map number_of state.free.own)
  times-all = times-free z history lanes states (slots_items old) last lane state own

  -- a place that was returned is on the chain, or home
  returned-either : (place : ℕ) → 0 < times place (returned_places z lane.number chain threads given) → (0 < times place chain) ⊎ ((pool_after z history place).phase ≡ home)
  returned-either place some =
      let whole = times-returned place in
      dite (ℕ_discrete (times place chain) 0)
      (λ (unchained : times place chain ≡ 0). dite (ℕ_discrete (times place given) 0)
      (λ (ungiven : times place given ≡ 0). inr (stacked-home z history lanes states (slots_items old) last lane state own place (omega (arith, some, whole, unchained, ungiven))))
      (λ (by_guest : times place given ≢ 0). inr (given-at-home z history lanes states (slots_items old) last lane state own place (omega (arith, by_guest)))))
      (λ (chained : times place chain ≢ 0). inl (omega (arith, chained)))

  -- it is one of the shape's
  pub state-low : state.number < z.lanes
  state-low = subst (λ n. n < z.lanes) (sym own.number_is) own.below

  pub count-low : count < z.lanes
  count-low = let within = slice_get_within states count state at in let b = last.count.1 in omega arith

  module _ (now : Slots ℕ) (census : Census) (h : SoFar z history lanes old count now census) where
    so_far_blanked : AreBlanked h.marked (words_in z (slots_items old)) (words_in z (slots_items now))
    so_far_blanked = blanks-words z ok h.marked old now row h.inside h.blanks

    -- its free places stand as before
    stand-own : AreFreePlaces z (slots_items now) lane.number state.pages.opened state.free chain threads given
    stand-own = free-stays z h.marked (slots_items old) (slots_items now) lane.number state.pages.opened state.free chain threads given so_far_blanked
        (free-stand z history lanes states (slots_items old) last lane state own)

    pub stand-now : AreFreePlaces z (slots_items now) state.number state.pages.opened state.free chain threads given
    stand-now = subst (λ n. AreFreePlaces z (slots_items now) n state.pages.opened state.free chain threads given) (sym own.number_is) stand-own

    -- what was returned is of its shard
    of-shard : (place : ℕ) → 0 < times place (returned_places z lane.number chain threads given) → (is_place z place ≡ true) × (shard_of place ≡ lane.number)
    of-shard place some =
        let whole = times-returned place in
        dite (ℕ_discrete (times place chain) 0)
        (λ (unchained : times place chain ≡ 0). dite (ℕ_discrete (times place given) 0)
        (λ (ungiven : times place given ≡ 0).
        stacked-inside z (slots_items now) lane.number z.lanes threads stand-own.returned (omega arith) place (omega (arith, some, whole, unchained, ungiven)))
        (λ (by_guest : times place given ≢ 0). stand-own.given_are.inside place (omega (arith, by_guest))))
        (λ (chained : times place chain ≢ 0). stand-own.chained.1.inside place (omega (arith, chained)))

    -- all of them are places of its shard
    free-own : (place : ℕ) → 0 < times place (free_places z lane.number state.free chain threads given) → (is_place z place ≡ true) × (shard_of place ≡ lane.number)
    free-own place some =
        let whole = times-all place in
        dite (ℕ_discrete (times place (map number_of state.free.own)) 0)
        (λ (unlisted : times place (map number_of state.free.own) ≡ 0).
        let all = times-returned place in of-shard place (omega (arith, some, whole, all, unlisted)))
        (λ (listed : times place (map number_of state.free.own) ≢ 0).
        let on = among-number state.free.own place (omega (arith, listed)) in
        let kept = own.listed on.at (subst (λ (f : FreePlaces). Contains f.own on.at) own.free_is on.within) in
        (subst (λ n. is_place z n ≡ true) on.is kept.inside, subst (λ n. shard_of n ≡ lane.number) on.is kept.own))

    -- none was marked before
    unmarked : (place : ℕ) → shard_of place ≡ lane.number → times place h.marked ≡ 0
    unmarked place of_shard = no_times (times place h.marked) (λ some.
        let before = h.earlier place some in
        let at_before = before.2 in
        let same = same-index lanes z.lanes last.count.0 (λ number low. let a = last.all number low in (a.0, (a.1, a.2, a.3))) before.0 count at_before.0 lane at_before.1 found.1 (at_before.2 ∙ of_shard)
        (subst (λ n. n < z.lanes) (sym (at_before.2 ∙ of_shard)) own.below) in
        let low = before.1 in
        omega arith)

    -- no earlier state is of the shard of such a place
    not-earlier : (place : ℕ) → shard_of place ≡ lane.number → (index : ℕ) → index < count → At lanes index (shard_of place) → ⊥
    not-earlier place of_shard index low there =
        let same = same-index lanes z.lanes last.count.0 (λ number below. let a = last.all number below in (a.0, (a.1, a.2, a.3))) index count there.0 lane there.1 found.1 (there.2 ∙ of_shard)
        (subst (λ n. n < z.lanes) (sym (there.2 ∙ of_shard)) own.below) in
        omega (arith, low, same)

    -- its returned places are marked
    pub returned-own : (mid : Slots ℕ) → ((first : List ℕ) (others : ℕ → List ℕ) (by_guests : List ℕ)
        → AreFreePlaces z (slots_items now) state.number state.pages.opened state.free first others by_guests
        → Blanks z (returned_places z state.number first others by_guests) now mid) → Blanks z (returned_places z lane.number chain threads given) now mid
    returned-own mid marks = subst (λ n. Blanks z (returned_places z n chain threads given) now mid) own.number_is (marks chain threads given stand-now)

    module _ (mid : Slots ℕ) (returned : Blanks z (returned_places z lane.number chain threads given) now mid) where
      blanked-mid : AreBlanked (returned_places z lane.number chain threads given) (words_in z (slots_items now)) (words_in z (slots_items mid))
      blanked-mid = blanks-words z ok (returned_places z lane.number chain threads given) now mid h.blanks.row (λ place some. (of-shard place some).0) returned

      last-word : (place : ℕ) → shard_of place ≡ lane.number → times place (returned_places z lane.number chain threads given) ≡ 0
          → (words_in z (slots_items mid)).life place ≡ (words_in z (slots_items old)).life place
      last-word place of_shard none = blanked-mid.kept place none ∙ so_far_blanked.kept place (unmarked place of_shard)

      -- a place of an unopened page was not returned, and is idle by its word
      pub unopened-idle : (place : ℕ) → is_place z place ≡ true → shard_of place ≡ state.number → state.pages.opened ≤ page_of place
          → IsIdleWord ((words_in z (slots_items mid)).life place)
      unopened-idle place inside of_shelf unopened = (
        λ none. word-some z history lanes states (slots_items old) last lane state own place inside (sym word ∙ none),
        ap state_in word ∙ ((last.state place inside).0 ∙ ap bits_of is),
      )
        where
          of_shard : shard_of place ≡ lane.number
          of_shard = of_shelf ∙ own.number_is

          low : lane.pages.opened ≤ page_of place
          low = let same : state.pages.opened ≡ lane.pages.opened = ap (λ (p : ShardPages). p.opened) own.pages_is in omega (arith, unopened, same)

          is : (pool_after z history place).phase ≡ with lane.number
          is = own.unopened place inside of_shard low

          unreturned : times place (returned_places z lane.number chain threads given) ≡ 0
          unreturned = no_times (times place (returned_places z lane.number chain threads given)) (λ some. ⊎_elim
              (λ (chained : 0 < times place chain). let opened = (own.chained place (has-some place chain chained)).opened in omega (arith, opened, low))
              (λ (at : (pool_after z history place).phase ≡ home). let at_home : with lane.number ≡ home = sym is ∙ at in cc at_home)
              (returned-either place some))

          word : (words_in z (slots_items mid)).life place ≡ (words_in z (slots_items old)).life place
          word = last-word place of_shard unreturned

      -- a published place was not returned
      away : (place : ℕ) (content : List ℕ) (references : ℕ → ℕ) (mark : Bool) → (pool_after z history place).phase ≡ published content references mark
          → times place (returned_places z lane.number chain threads given) ≡ 0
      away place content references mark is = no_times (times place (returned_places z lane.number chain threads given)) (λ some. ⊎_elim
          (λ (chained : 0 < times place chain).
          let with_lane : published content references mark ≡ with lane.number = sym is ∙ (own.chained place (has-some place chain chained)).with_lane in
          cc with_lane)
          (λ (at : (pool_after z history place).phase ≡ home). let at_home : published content references mark ≡ home = sym is ∙ at in cc at_home)
          (returned-either place some))

      -- nor was a retired one
      away-retired : (place : ℕ) → (pool_after z history place).phase ≡ retired → times place (returned_places z lane.number chain threads given) ≡ 0
      away-retired place is = no_times (times place (returned_places z lane.number chain threads given)) (λ some. ⊎_elim
          (λ (chained : 0 < times place chain).
          let with_lane : retired ≡ with lane.number = sym is ∙ (own.chained place (has-some place chain chained)).with_lane in
          cc with_lane)
          (λ (at : (pool_after z history place).phase ≡ home). let at_home : retired ≡ home = sym is ∙ at in cc at_home)
          (returned-either place some))

      retired-bits : (place : ℕ) → is_place z place ≡ true → shard_of place ≡ lane.number → (pool_after z history place).phase ≡ retired
          → state_in ((words_in z (slots_items mid)).life place) ≡ 2
      retired-bits place inside of_shard is = ap state_in (last-word place of_shard (away-retired place is)) ∙ ((last.state place inside).0 ∙ ap bits_of is)

      published-bits : (place : ℕ) → is_place z place ≡ true → shard_of place ≡ lane.number → (content : List ℕ) (references : ℕ → ℕ) (mark : Bool)
          → (pool_after z history place).phase ≡ published content references mark
          → (state_in ((words_in z (slots_items mid)).life place) ≡ 1) ⊎ (state_in ((words_in z (slots_items mid)).life place) ≡ 3)
      published-bits place inside of_shard content references mark is = by mark is
        where
          state_bits_are : (state_in ((words_in z (slots_items mid)).life place)) ≡ bits_of (pool_after z history place).phase
          state_bits_are = ap state_in (last-word place of_shard (away place content references mark is)) ∙ (last.state place inside).0

          by : (mark : Bool) → (pool_after z history place).phase ≡ published content references mark
              → (state_in ((words_in z (slots_items mid)).life place) ≡ 1) ⊎ (state_in ((words_in z (slots_items mid)).life place) ≡ 3)
          by false so = inl (state_bits_are ∙ ap bits_of so)
          by true so = inr (state_bits_are ∙ ap bits_of so)

      -- the places of the shard have no cell more
      drained : (cells : Slots (Option (Share T))) (place : ℕ) → is_place z place ≡ true → shard_of place ≡ lane.number
          → HasNoCell z (slots_items cells) place ((words_in z (slots_items mid)).life place) → IsDrained z history lanes (slots_items cells) place
      drained cells place inside of_shard none = record {
        spread = λ content references mark is. none.unspread (published-bits place inside of_shard content references mark is);
        retires = λ is. none.unretired (retired-bits place inside of_shard is);
        returned = λ is.
            let on = home-returned z history lanes states (slots_items old) last lane state own place inside of_shard is in
            let whole = times-returned place in
            none.unrested (blanked-mid.gone place (omega (arith, on, whole)));
        taken = λ index other at_other among.
            let number : other.number ≡ lane.number = sym (kept-own index other at_other place among) ∙ of_shard in
            let same = same-index lanes z.lanes last.count.0 (λ number low. let a = last.all number low in (a.0, (a.1, a.2, a.3))) index count other lane at_other found.1 number
            (subst (λ n. n < z.lanes) (sym number) own.below) in
            let is : other ≡ lane = some-same other lane (sym at_other ∙ (ap (slice_get lanes) same ∙ found.1)) in
            let mine : has chain place ≡ true = subst (λ (l : LaneOf). has (the_lane l.book).chain place ≡ true) is among in
            let whole = times-returned place in
            dite (ℕ_discrete (times place chain) 0)
            (λ unchained. absurd (cc (sym mine ∙ has-none place chain unchained)))
            (λ chained. none.unrested (blanked-mid.gone place (omega (arith, chained, whole))));
      }
        where
          kept-own : (index : ℕ) (other : LaneOf) → slice_get lanes index ≡ Some other → (p : ℕ) → has (the_lane other.book).chain p ≡ true → shard_of p ≡ other.number
          kept-own index other at_other p among =
              let within = slice_get_within lanes index other at_other in
              let a = last.count.0 in
              let b = last.count.1 in
              let there = get-some states index (omega (arith, within, a, b)) in
              ((last.each index other there.0 at_other there.1).chained p among).own

      -- the slots after the shard
      pub slots-more : {cells_old cells_now : Slots (Option (Share T))} → SlotsSoFar z history lanes count cells_old cells_now → (cells_then : Slots (Option (Share T)))
          → DrainsShard z state.number (words_in z (slots_items mid)).life cells_now cells_then → SlotsSoFar z history lanes (count + 1) cells_old cells_then
      slots-more {cells_old} {cells_now} slots cells_then d = record {
        row = d.row;
        start = d.start ∙ slots.start;
        kept = λ place inside none number low.
            d.kept place number inside low (λ same. none count (omega arith) (lane, found.1, sym (same ∙ own.number_is)))
            ∙ slots.kept place inside (λ index below. none index (omega (arith, below))) number low;
        gone = λ place inside index low at_index. dite (ℕ_discrete index count)
            (λ (here : index ≡ count).
            let number = at-one lanes count (shard_of place) lane.number (subst (λ n. At lanes n (shard_of place)) here at_index) (lane, found.1, refl) in
            drained cells_then place inside number (d.gone place inside (number ∙ sym own.number_is)))
            (λ (other : index ≢ count).
            let before : index < count = omega (arith, low, other) in
            drained-stays z history lanes (slots_items cells_now) (slots_items cells_then) place inside
            (λ number below. d.kept place number inside below (λ same. not-earlier place (same ∙ own.number_is) index before at_index))
            (slots.gone place inside index before at_index));
      }

    module _ (mid : Slots ℕ) (returned : Blanks z (returned_places z lane.number chain threads given) now mid) {spots : ℕ → CellSpot}
        {cells_old cells_now : Slots (Option (Share T))} (cells : HasCells spots z history lanes (slots_items cells_old)) (slots : SlotsSoFar z history lanes count cells_old cells_now) where
      module _ (place : ℕ) (inside : is_place z place ≡ true) (of_shard : shard_of place ≡ lane.number) where
        same-slots : SameSlots z (slots_items cells_old) (slots_items cells_now) place
        same-slots = slots.kept place inside (not-earlier place of_shard)

        rests : 0 < times place (returned_places z lane.number chain threads given) → IsResting spots z (slots_items cells_old) place
        rests some = ⊎_elim
            (λ (chained : 0 < times place chain). cells.taken count lane place inside found.1 (has-some place chain chained))
            (λ (at : (pool_after z history place).phase ≡ home). cells.returned place inside at)
            (returned-either place some)

        spreads : (bits : ℕ) → (bits ≡ 1) ⊎ (bits ≡ 3) → (phase : Phase) → (pool_after z history place).phase ≡ phase → bits ≡ bits_of phase → IsSpread spots z (slots_items cells_old) place
        spreads bits some (with owner) is same = absurd (⊎_elim (λ one. omega (arith, one, same)) (λ three. omega (arith, three, same)) some)
        spreads bits some (published content references mark) is same = cells.spread place inside content references mark is
        spreads bits some home is same = absurd (⊎_elim (λ one. omega (arith, one, same)) (λ three. omega (arith, three, same)) some)
        spreads bits some retired is same = absurd (⊎_elim (λ one. omega (arith, one, same)) (λ three. omega (arith, three, same)) some)

        retires : (bits : ℕ) → bits ≡ 2 → (phase : Phase) → (pool_after z history place).phase ≡ phase → bits ≡ bits_of phase → IsResting spots z (slots_items cells_old) place
        retires bits two (with owner) is same = absurd (omega (arith, two, same))
        retires bits two (published content references false) is same = absurd (omega (arith, two, same))
        retires bits two (published content references true) is same = absurd (omega (arith, two, same))
        retires bits two home is same = absurd (omega (arith, two, same))
        retires bits two retired is same = cells.retires place inside is

        -- what the slots of a place of the shard have, by its word, which is 0 where it was returned
        has-cell : HasCell spots z (slots_items cells_now) place ((words_in z (slots_items mid)).life place)
        has-cell = cell-stays z (slots_items cells_old) (slots_items cells_now) place ((words_in z (slots_items mid)).life place) inside same-slots (record {
          resting = λ none. dite (ℕ_discrete (times place (returned_places z lane.number chain threads given)) 0)
              (λ (unreturned : times place (returned_places z lane.number chain threads given) ≡ 0).
              absurd (word-some z history lanes states (slots_items old) last lane state own place inside (sym (last-word mid returned place of_shard unreturned) ∙ none)))
              (λ there. rests (omega arith));
          retired = λ two. dite (ℕ_discrete (times place (returned_places z lane.number chain threads given)) 0)
              (λ (unreturned : times place (returned_places z lane.number chain threads given) ≡ 0).
              retires (state_in ((words_in z (slots_items mid)).life place)) two (pool_after z history place).phase refl
              (ap state_in (last-word mid returned place of_shard unreturned) ∙ (last.state place inside).0))
              (λ there.
              let gone : state_in ((words_in z (slots_items mid)).life place) ≡ 0 = ap state_in ((blanked-mid mid returned).gone place (omega arith)) in
              absurd (omega (arith, two, gone)));
          spread = λ bits. dite (ℕ_discrete (times place (returned_places z lane.number chain threads given)) 0)
              (λ (unreturned : times place (returned_places z lane.number chain threads given) ≡ 0).
              spreads (state_in ((words_in z (slots_items mid)).life place)) bits (pool_after z history place).phase refl
              (ap state_in (last-word mid returned place of_shard unreturned) ∙ (last.state place inside).0))
              (λ there.
              let gone : state_in ((words_in z (slots_items mid)).life place) ≡ 0 = ap state_in ((blanked-mid mid returned).gone place (omega arith)) in
              absurd (⊎_elim (λ one. omega (arith, one, gone)) (λ three. omega (arith, three, gone)) bits));
        })

      pub have-cells : (place : ℕ) → is_place z place ≡ true → shard_of place ≡ state.number → HasCell spots z (slots_items cells_now) place ((words_in z (slots_items mid)).life place)
      have-cells place inside of_shelf = has-cell place inside (of_shelf ∙ own.number_is)

    module _ (then : Slots ℕ) (after : Census) (marks : Blanks z (free_places z lane.number state.free chain threads given) now then)
        (counts : Counts z lane.number state.pages.opened (slots_items then) census after) where
      blanked_then : AreBlanked (free_places z lane.number state.free chain threads given) (words_in z (slots_items now)) (words_in z (slots_items then))
      blanked_then = blanks-words z ok (free_places z lane.number state.free chain threads given) now then h.blanks.row (λ place some. (free-own place some).0) marks

      -- what a place of the shard was counted as
      this-part : (place : ℕ) → is_place z place ≡ true → shard_of place ≡ lane.number
          → IsPart history lane place (part_in state.pages.opened (page_of place) ((words_in z (slots_items then)).life place))
      this-part place inside of_shard = part-is z history lanes states (slots_items old) last lane state own place ((words_in z (slots_items then)).life place) inside of_shard
          (λ some. blanked_then.gone place some)
          (λ none. blanked_then.kept place none ∙ so_far_blanked.kept place (unmarked place of_shard))

      this-each : (other : LaneOf) (place : ℕ) (part : Part) → slice_get lanes count ≡ Some other → is_place z place ≡ true → shard_of place ≡ other.number
          → slice_get (h.parts ++ counts.parts) (count * shard_places z + index_of z place) ≡ Some part → IsPart history other place part
      this-each other place part at_other inside of_shard get =
          let same : lane ≡ other = some-same lane other (sym found.1 ∙ at_other) in
          let mine : shard_of place ≡ lane.number = of_shard ∙ ap (λ (l : LaneOf). l.number) (sym same) in
          let low = index_of-lt z place inside in
          let wide = counts.wide in
          let back = get-back h.parts counts.parts (index_of z place) (omega arith) in
          let to : slice_get (h.parts ++ counts.parts) (count * shard_places z + index_of z place) ≡ slice_get counts.parts (index_of z place)
          = ap (λ n. slice_get (h.parts ++ counts.parts) (n + index_of z place)) (sym h.wide) ∙ back in
          let is = some-same (part_in state.pages.opened (page_of place) ((words_in z (slots_items then)).life place)) part (sym (counts.each place inside mine) ∙ (sym to ∙ get)) in
          subst (λ l. IsPart history l place part) same (subst (IsPart history lane place) is (this-part place inside mine))

      one-more : SoFar z history lanes old (count + 1) then after
      one-more = record {
        marked = h.marked ++ free_places z lane.number state.free chain threads given;
        blanks = blanks-then z h.marked (free_places z lane.number state.free chain threads given) old now then h.blanks marks;
        inside = λ place some.
            let both = times-append place h.marked (free_places z lane.number state.free chain threads given) in
            dite (ℕ_discrete (times place h.marked) 0)
            (λ none. (free-own place (omega arith)).0)
            (λ more. h.inside place (omega arith));
        earlier = λ place some.
            let both = times-append place h.marked (free_places z lane.number state.free chain threads given) in
            dite (ℕ_discrete (times place h.marked) 0)
            (λ none. (count, omega arith, (lane, found.1, sym (free-own place (omega arith)).1)))
            (λ more. let before = h.earlier place (omega arith) in let low = before.1 in (before.0, omega arith, before.2));
        parts = h.parts ++ counts.parts;
        wide =
            let long = length-append h.parts counts.parts in
            let front = h.wide in
            let back = counts.wide in
            omega arith;
        each = λ index other place part low at_other inside of_shard get. dite (ℕ_discrete index count)
            (λ here. this-each other place part (subst (λ n. slice_get lanes n ≡ Some other) here at_other) inside of_shard
            (subst (λ n. slice_get (h.parts ++ counts.parts) (n * shard_places z + index_of z place) ≡ Some part) here get))
            (λ before.
            let step = mul-add-lt index (shard_places z) (index_of z place) count (omega arith) (index_of-lt z place inside) in
            let front = h.wide in
            h.each index other place part (omega arith) at_other inside of_shard
            (sym (get-front h.parts counts.parts (index * shard_places z + index_of z place) (omega (arith, step))) ∙ get));
        counts = counts.counts ∙ (ap (λ (c : Census). all_counted c counts.parts) h.counts ∙ sym (counted-append none_counted h.parts counts.parts));
      }

    -- its free places are marked and its places counted
    pub so-far-more : (then : Slots ℕ) (after : Census)
        → ((first : List ℕ) (others : ℕ → List ℕ) (by_guests : List ℕ) → AreFreePlaces z (slots_items now) state.number state.pages.opened state.free first others by_guests
        → Blanks z (free_places z state.number state.free first others by_guests) now then)
        → Counts z state.number state.pages.opened (slots_items then) census after → SoFar z history lanes old (count + 1) then after
    so-far-more then after marks counts = one-more then after
        (subst (λ n. Blanks z (free_places z n state.free chain threads given) now then) own.number_is (marks chain threads given stand-now))
        (subst (λ n. Counts z n state.pages.opened (slots_items then) census after) own.number_is counts)

-- ---- at the end

-- all states were gone over
pub all-gone : {T : Type 0} (z : Shape) (history : List Act) (lanes : List LaneOf) (states done left : List (LaneState T)) (old now : Slots ℕ) (census : Census)
    → AreLast z history lanes states (words_in z (slots_items old)) → done ++ left ≡ states → left ≡ [] → SoFar z history lanes old (length done) now census
    → SoFar z history lanes old z.lanes now census
all-gone z history lanes states done left old now census last whole none h =
    let long = ap length whole in
    let parts = length-append done left in
    let empty = ap length none in
    let all = last.count.1 in
    subst (λ n. SoFar z history lanes old n now census) (omega arith) h

pub is-census : {T : Type 0} (z : Shape) (history : List Act) (lanes : List LaneOf) (states : List (LaneState T)) (old now : Slots ℕ) (census : Census)
    → AreLast z history lanes states (words_in z (slots_items old)) → SoFar z history lanes old z.lanes now census → IsCensus z history lanes census
is-census z history lanes states old now census last h = record {
  parts = h.parts;
  wide = h.wide;
  each = λ index lane place part at inside of_shard get.
      let within = slice_get_within lanes index lane at in let all = last.count.0 in
      h.each index lane place part (omega arith) at inside of_shard get;
  counts = h.counts;
}

-- no place's slots have a cell more
pub all-drained : {T : Type 0} (z : Shape) (history : List Act) (lanes : List LaneOf) (states done left : List (LaneState T)) (words : List ℕ) (old now : Slots (Option (Share T)))
    → AreLast z history lanes states (words_in z words) → done ++ left ≡ states → left ≡ [] → SlotsSoFar z history lanes (length done) old now
    → (place : ℕ) → is_place z place ≡ true → IsDrained z history lanes (slots_items now) place
all-drained z history lanes states done left words old now last whole none h place inside =
    let long = ap length whole in
    let parts = length-append done left in
    let empty = ap length none in
    let all = last.count.1 in
    let count = last.count.0 in
    let lane = last.all (shard_of place) (is_place-parts z place inside).0 in
    let within = slice_get_within lanes lane.0 lane.1 lane.2 in
    h.gone place inside lane.0 (omega (arith, long, parts, empty, all, count, within)) (lane.1, lane.2, lane.3)
